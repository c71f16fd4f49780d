use Rattle.std.proofs.Common.{◌≡◌, ◌++◌}
use Rattle.cob_copybook_tree.specs.Nodes.{tree_of}
use Rattle.cob_layout_places.proofs.ForestLemmas.{left}
use Rattle.cob_layout.specs.Counting.{in_order}
use Rattle.cob_layout.proofs.counts.+push_greatest.Given as goal

abbrev pub decreases-push_greatest : goal.decreases-push_greatest
decreases-push_greatest l = goal.size-push_greatest l

abbrev pub invariant-loop-child : goal.invariant-loop-child
invariant-loop-child l = l.counts.items ++ in_order (left l.child-items l.child-index) ≡ l.fn.counts.items ++ in_order (tree_of l.entry)
