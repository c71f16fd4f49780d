use Rattle.std.proofs.Common.{length}
use Rattle.cob_program_compare.proofs.names.words_of.Given as goal

abbrev pub decreases-loop-first : goal.decreases-loop-first
decreases-loop-first l = length l.rest
