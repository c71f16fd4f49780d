use Rattle.std.proofs.Common.{drop}
use Rattle.cob_copybook_tree.specs.Nodes.{forest}
use Rattle.cob_copybook_rules.specs.Areas.{ArePossible}
use Rattle.cob_test_copybooks.proofs.lengths.+are_possible.Given as goal

abbrev pub decreases-are_possible : goal.decreases-are_possible
decreases-are_possible l = goal.size-are_possible l

abbrev pub invariant-loop-node : goal.invariant-loop-node
invariant-loop-node l = ArePossible (forest (drop l.node-index l.nodes)) → ArePossible (forest l.nodes)
