use Rattle.std.proofs.Common.{ℕ, ◌<◌}
use Rattle.cob_back_losses.specs.Keeping.{IsMarked}
use Rattle.cob_back_losses.proofs.lost.are_marked.Given as goal

abbrev pub invariant-loop-at : goal.invariant-loop-at
invariant-loop-at l = (k : ℕ) → k < l.at → IsMarked l.marks k
