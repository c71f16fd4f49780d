use Rattle.std.proofs.Common.{◌≡◌, ◌++◌}
use Rattle.cob_copybook_tree.specs.Nodes.{tree_of}
use Rattle.cob_layout_places.specs.Counts.{tables_of}
use Rattle.cob_layout_places.proofs.ForestLemmas.{left}
use Rattle.cob_layout_places.proofs.varying.+push_tables.Given as goal

abbrev pub decreases-push_tables : goal.decreases-push_tables
decreases-push_tables l = goal.size-push_tables l

abbrev pub invariant-loop-child : goal.invariant-loop-child
invariant-loop-child l = l.tables.items ++ tables_of (left l.child-items l.child-index) ≡ l.fn.tables.items ++ tables_of (tree_of l.entry)
