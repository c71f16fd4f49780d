use Rattle.std.proofs.Common.{◌≡◌, ◌++◌}
use Rattle.cob_copybook_tree.specs.Nodes.{tree_of}
use Rattle.cob_layout_places.proofs.ForestLemmas.{left}
use Rattle.cob_layout.specs.Kinds.{kinds_of}
use Rattle.cob_layout.proofs.kinds.+push_kinds.Given as goal

abbrev pub decreases-push_kinds : goal.decreases-push_kinds
decreases-push_kinds l = goal.size-push_kinds l

abbrev pub invariant-loop-child : goal.invariant-loop-child
invariant-loop-child l = l.kinds.items ++ kinds_of (left l.child-items l.child-index) ≡ l.fn.kinds.items ++ kinds_of (tree_of l.entry)
