use Rattle.std.proofs.Common.{length}
use Rattle.cob_records.proofs.Spelled.{SpelledSoFar}
use Rattle.cob_records.proofs.block_size.block_size_of.Given as goal

abbrev pub invariant-loop-digit : goal.invariant-loop-digit
invariant-loop-digit l = SpelledSoFar l.word l.rest l.number

abbrev pub decreases-loop-digit : goal.decreases-loop-digit
decreases-loop-digit l = length l.rest
