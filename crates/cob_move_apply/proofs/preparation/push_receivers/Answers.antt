use Rattle.std.proofs.Common.{List, map}
use Rattle.cob_move_data.specs.declared.operands.Operand.{Operand}
use Rattle.cob_move_data.specs.Moves.{IsOperand, operand_in}
use Rattle.cob_move_apply.proofs.BasisLemmas.{noted_all, noted_more, noted_none}
use Rattle.cob_move_apply.proofs.ListLemmas.{at, below, left_first, left_more, past}
use Rattle.cob_move_apply.proofs.preparation.push_receivers.Goals as goal

pub loop-receiver-init : goal.loop-receiver-init
loop-receiver-init c = record {
  noted = noted_none c.args.layout.now (map (operand_in c.args.layout.now) c.args.receivers.now) c.args.bases.now.items;
  left = c.requires.receivers;
}

pub basis_of-basis-requires : goal.basis_of-basis-requires
basis_of-basis-requires c =
    let seen : List Operand = map (operand_in c.args.layout.now) c.args.receivers.now in record {
      operand = left_first (IsOperand c.args.layout.now) seen c.loop-receiver.receiver-index (operand_in c.args.layout.now c.receiver-item.result)
          (below (operand_in c.args.layout.now) c.args.receivers.now c.loop-receiver.receiver-index c.loop-receiver-test.true)
          (at (operand_in c.args.layout.now) c.args.receivers.now c.loop-receiver.receiver-index c.receiver-item.result c.loop-receiver-test.true c.receiver-item.is)
          c.loop-receiver.invariant.left;
    }

pub loop-receiver-preserved : goal.loop-receiver-preserved
loop-receiver-preserved c =
    let seen : List Operand = map (operand_in c.args.layout.now) c.args.receivers.now in
    let lt = below (operand_in c.args.layout.now) c.args.receivers.now c.loop-receiver.receiver-index c.loop-receiver-test.true in
    let is = at (operand_in c.args.layout.now) c.args.receivers.now c.loop-receiver.receiver-index c.receiver-item.result c.loop-receiver-test.true c.receiver-item.is in record {
      noted = noted_more c.args.layout.now seen c.loop-receiver.receiver-index (operand_in c.args.layout.now c.receiver-item.result) c.basis_of-basis.result c.args.bases.now.items
          c.loop-receiver.bases.items c.push.new.self.items lt is
          (record {
            operand = left_first (IsOperand c.args.layout.now) seen c.loop-receiver.receiver-index (operand_in c.args.layout.now c.receiver-item.result) lt is c.loop-receiver.invariant.left;
            basis = c.basis_of-basis.ensures;
          })
          c.in_ok-push.ensures.items c.loop-receiver.invariant.noted;
      left = left_more (IsOperand c.args.layout.now) seen c.loop-receiver.receiver-index (operand_in c.args.layout.now c.receiver-item.result) lt is c.loop-receiver.invariant.left;
    }

pub returns : goal.returns
returns c = record {
  placed = noted_all c.args.layout.now (map (operand_in c.args.layout.now) c.args.receivers.now) c.loop-receiver.receiver-index c.args.bases.now.items c.loop-receiver.bases.items
      (past (operand_in c.args.layout.now) c.args.receivers.now c.loop-receiver.receiver-index c.loop-receiver-test.false) c.loop-receiver.invariant.noted;
}
