use Rattle.std.proofs.Common.{false, List, map, subst, sym}
use Rattle.std.specs.List.{AllByRecursion}
use Rattle.std.proofs.lemmas.List.{drop_all}
use Rattle.cob_move_data.specs.declared.operands.Operand.{Operand}
use Rattle.cob_move_data.specs.Moves.{IsOperand, operand_in}
use Rattle.cob_move_apply.specs.Cut.{LeavesPlace}
use Rattle.cob_move_apply.proofs.CutLemmas.{no_table}
use Rattle.cob_move_apply.proofs.ListLemmas.{at, below, left_first, left_more, next, past}
use Rattle.cob_move_apply.proofs.PlaceLemmas.{fixed}
use Rattle.cob_move_apply.proofs.cutting.leave_entry.Goals as goal

pub loop-receiver-init : goal.loop-receiver-init
loop-receiver-init c = record { left = c.requires.receivers; so = λ h. h }

pub leaves_place-requires : goal.leaves_place-requires
leaves_place-requires c =
    let seen : List Operand = map (operand_in c.args.output.now) c.args.receivers.now in record {
      receiver = left_first (IsOperand c.args.output.now) seen c.loop-receiver.receiver-index (operand_in c.args.output.now c.receiver-item.result)
          (below (operand_in c.args.output.now) c.args.receivers.now c.loop-receiver.receiver-index c.loop-receiver-test.true)
          (at (operand_in c.args.output.now) c.args.receivers.now c.loop-receiver.receiver-index c.receiver-item.result c.loop-receiver-test.true c.receiver-item.is)
          c.loop-receiver.invariant.left;
    }

pub loop-receiver-preserved : goal.loop-receiver-preserved
loop-receiver-preserved c =
    let seen : List Operand = map (operand_in c.args.output.now) c.args.receivers.now in
    let lt = below (operand_in c.args.output.now) c.args.receivers.now c.loop-receiver.receiver-index c.loop-receiver-test.true in
    let is = at (operand_in c.args.output.now) c.args.receivers.now c.loop-receiver.receiver-index c.receiver-item.result c.loop-receiver-test.true c.receiver-item.is in record {
      left = left_more (IsOperand c.args.output.now) seen c.loop-receiver.receiver-index (operand_in c.args.output.now c.receiver-item.result) lt is c.loop-receiver.invariant.left;
      so = λ h. c.loop-receiver.invariant.so (subst (λ (xs : List Operand). AllByRecursion (LeavesPlace c.args.output.now c.in-Some.from) xs)
          (sym (next seen c.loop-receiver.receiver-index (operand_in c.args.output.now c.receiver-item.result) lt is)) (c.leaves_place.ensures c.if-not-leaves_place.false, h));
    }

pub returns : goal.returns
returns c = λ yes. record {
  from = c.in-Some.from;
  sends = fixed c.args.output.now false (operand_in c.args.output.now c.args.sent.now) c.in-Some.from c.in-Some.ensures.fixed c.in-Some.ensures.value c.in-Some.ensures.fits;
  leave = c.loop-receiver.invariant.so (subst (λ (xs : List Operand). AllByRecursion (LeavesPlace c.args.output.now c.in-Some.from) xs)
      (sym (drop_all c.loop-receiver.receiver-index (map (operand_in c.args.output.now) c.args.receivers.now)
      (past (operand_in c.args.output.now) c.args.receivers.now c.loop-receiver.receiver-index c.loop-receiver-test.false))) tt);
  none = no_table c.args.output.now _ c.varies.ensures.exact c.if-varies.false;
}
