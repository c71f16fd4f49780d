use Rattle.std.proofs.Common.{length}
use Rattle.cob_source_copies.proofs.fetching.is_open.Given as goal

abbrev pub decreases-loop-first : goal.decreases-loop-first
decreases-loop-first l = length l.rest
