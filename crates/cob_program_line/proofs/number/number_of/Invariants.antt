use Rattle.std.proofs.Common.{length}
use Rattle.cob_program_line.proofs.Digits.{ReadSoFar}
use Rattle.cob_program_line.proofs.number.number_of.Given as goal

abbrev pub invariant-loop-digit : goal.invariant-loop-digit
invariant-loop-digit l = ReadSoFar l.word l.rest l.number

abbrev pub decreases-loop-digit : goal.decreases-loop-digit
decreases-loop-digit l = length l.rest
