use Rattle.std.proofs.Common.{◌≡◌, ◌+◌, length}
use Rattle.cob_source_copies.proofs.fetching.with_opened.Given as goal

abbrev pub invariant-loop-first : goal.invariant-loop-first
invariant-loop-first l = length l.out.items + length l.rest ≡ length l.opened

abbrev pub decreases-loop-first : goal.decreases-loop-first
decreases-loop-first l = length l.rest
