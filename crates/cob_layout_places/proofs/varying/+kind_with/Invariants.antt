use Rattle.std.proofs.Common.{◌≡◌}
use Rattle.cob_layout_places.specs.Counts.{kind_in}
use Rattle.cob_layout_places.proofs.ForestLemmas.{left, below}
use Rattle.cob_layout_places.proofs.varying.+kind_with.Given as goal

abbrev pub decreases-kind_with : goal.decreases-kind_with
decreases-kind_with l = goal.size-kind_with l

abbrev pub invariant-loop-child : goal.invariant-loop-child
invariant-loop-child l = kind_in l.number (below l.entry) ≡ kind_in l.number (left l.child-items l.child-index)
