use Rattle.std.proofs.Common.{drop, map}
use Rattle.std.specs.List.{AllByRecursion}
use Rattle.cob_move_data.specs.Moves.{IsOperand, operand_in}
use Rattle.cob_move_apply.proofs.BasisLemmas.{NotedTo}
use Rattle.cob_move_apply.proofs.preparation.push_receivers.Given as goal

abbrev pub invariant-loop-receiver : goal.invariant-loop-receiver
invariant-loop-receiver l = record {
  noted : NotedTo l.layout (map (operand_in l.layout) l.receivers) l.receiver-index l.fn.bases.items l.bases.items;
  left : AllByRecursion (IsOperand l.layout) (drop l.receiver-index (map (operand_in l.layout) l.receivers));
}
