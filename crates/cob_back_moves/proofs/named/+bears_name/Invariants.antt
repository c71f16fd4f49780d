use Rattle.cob_copybook_tree.specs.Nodes.{tree_of}
use Rattle.cob_layout_places.proofs.ForestLemmas.{left}
use Rattle.cob_back_moves.specs.Returns.{BearsName}
use Rattle.cob_back_moves.proofs.LeftLemmas.{Both}
use Rattle.cob_back_moves.proofs.named.+bears_name.Given as goal

abbrev pub decreases-bears_name : goal.decreases-bears_name
decreases-bears_name l = goal.size-bears_name l

abbrev pub invariant-loop-child : goal.invariant-loop-child
invariant-loop-child l = Both (BearsName l.number (left l.child-items l.child-index)) (BearsName l.number (tree_of l.entry))
