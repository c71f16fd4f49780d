use Rattle.std.proofs.Common.{◌≡◌}
use Rattle.cob_layout_places.proofs.ForestLemmas.{left, below}
use Rattle.cob_move_names.specs.Groups.{found_below}
use Rattle.cob_move_names.proofs.groups.+found_below.Given as goal

abbrev pub decreases-found_below : goal.decreases-found_below
decreases-found_below l = goal.size-found_below l

abbrev pub invariant-loop-child : goal.invariant-loop-child
invariant-loop-child l = found_below l.number (below l.entry) ≡ found_below l.number (left l.child-items l.child-index)
