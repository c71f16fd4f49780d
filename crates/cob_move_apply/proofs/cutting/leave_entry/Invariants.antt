use Rattle.std.proofs.Common.{drop, map}
use Rattle.std.specs.List.{AllByRecursion}
use Rattle.cob_move_data.specs.Moves.{IsOperand, operand_in}
use Rattle.cob_move_apply.specs.Cut.{LeavesPlace}
use Rattle.cob_move_apply.proofs.cutting.leave_entry.Given as goal

abbrev pub invariant-loop-receiver : goal.invariant-loop-receiver
invariant-loop-receiver l = record {
  left : AllByRecursion (IsOperand l.output) (drop l.receiver-index (map (operand_in l.output) l.receivers));
  so : AllByRecursion (LeavesPlace l.output l.from) (drop l.receiver-index (map (operand_in l.output) l.receivers)) → AllByRecursion (LeavesPlace l.output l.from) (map (operand_in l.output) l.receivers);
}
