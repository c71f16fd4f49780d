use Rattle.cob_copybook_tree.specs.Nodes.{tree_of}
use Rattle.cob_layout_places.proofs.ForestLemmas.{left}
use Rattle.cob_back_moves.specs.Apart.{StandsOneWay}
use Rattle.cob_back_moves.proofs.LeftLemmas.{Both}
use Rattle.cob_back_moves.proofs.standing.+stands_one_way.Given as goal

abbrev pub decreases-stands_one_way : goal.decreases-stands_one_way
decreases-stands_one_way l = goal.size-stands_one_way l

abbrev pub invariant-loop-child : goal.invariant-loop-child
invariant-loop-child l = Both (StandsOneWay (left l.child-items l.child-index)) (StandsOneWay (tree_of l.entry))
