use Rattle.std.proofs.Common.{ℕ, Ok, subst, sym, true}
use Rattle.cob_move_data.specs.declared.operands.Operand.{Operand}
use Rattle.cob_move_data.specs.declared.operands.Side.TheVariants.{Out}
use Rattle.cob_move_data.specs.Moves.{operand_in}
use Rattle.cob_move_receive.specs.Sent.{Occupies}
use Rattle.cob_move_apply.specs.Applied.{done}
use Rattle.cob_move_apply.specs.Located.{Located}
use Rattle.cob_move_apply.specs.Placed.{IsPlaced}
use Rattle.cob_move_apply.specs.Surveyed.{records}
use Rattle.cob_move_apply.specs.declared.basis.Basis.{Basis}
use Rattle.cob_move_apply.proofs.ConstantLemmas.{applied_constant, constant_step_spends, the_located_constant}
use Rattle.cob_move_apply.proofs.constant.run_located_constant.Goals as goal

pub placed_operand-receiver-requires-clause-operand : goal.placed_operand-receiver-requires-clause-operand
placed_operand-receiver-requires-clause-operand c =
    let (own, is) = c.requires.step in
    let (constant, ready, same) = the_located_constant (records c.args.layouts.now) c.args.plan.now.constants.items c.args.plan.now.located_constants.items c.args.number own c.index-one.result.now is c.index-one.ensures in
    ready.receives.operand

pub locate_if_there-requires-clause-placed : goal.locate_if_there-requires-clause-placed
locate_if_there-requires-clause-placed c =
    let (own, is) = c.requires.step in
    let (constant, ready, same) = the_located_constant (records c.args.layouts.now) c.args.plan.now.constants.items c.args.plan.now.located_constants.items c.args.number own c.index-one.result.now is c.index-one.ensures in
    let tree = c.args.layouts.now.output.now in
    let placed = c.placed_operand-receiver in
    subst (λ (o : Operand). IsPlaced tree true o placed.result.basis.now) (sym placed.ensures.operand)
    (subst (λ (b : Basis). IsPlaced tree true (operand_in tree c.index-one.result.now.receiver) b) (sym placed.ensures.basis) ready.receives)

pub make_there-requires-clause-writes : goal.make_there-requires-clause-writes
make_there-requires-clause-writes c =
    let (own, is) = c.requires.step in
    let (constant, ready, same) = the_located_constant (records c.args.layouts.now) c.args.plan.now.constants.items c.args.plan.now.located_constants.items c.args.number own c.index-one.result.now is c.index-one.ensures in
    (constant, ready.writes)

pub make_there-requires-clause-stand : goal.make_there-requires-clause-stand
make_there-requires-clause-stand c =
    let tree = c.args.layouts.now.output.now in
    let to = c.in-Some.to in record {
      receives = subst (λ (o : Operand). Located Out tree true o c.args.output.now (Ok to)) c.placed_operand-receiver.ensures.operand c.in-Some.ensures.located;
      within = c.in-Some.ensures.fits;
      received = subst (λ (o : Operand). Occupies o.kind to.length) c.placed_operand-receiver.ensures.operand c.in-Some.ensures.filled;
    }

pub returns-clause-applied : goal.returns-clause-applied
returns-clause-applied c = λ yes own is.
    applied_constant (records c.args.layouts.now) c.args.plan.now.constants.items c.args.plan.now.located_constants.items c.args.number own c.index-one.result.now c.args.input.now c.args.output.now
    (done c.make_there.new.output) is c.index-one.ensures c.make_there.ensures.moved

pub returns-clause-spends : goal.returns-clause-spends
returns-clause-spends c = λ yes own is.
    constant_step_spends {A = ℕ} (records c.args.layouts.now) c.args.plan.now.constants.items c.args.plan.now.located_constants.items c.args.number own c.index-one.result.now c.args.input.now c.args.output.now
    (Ok 0) c.make_there.new.output _ _ is c.index-one.ensures (λ constant writes. c.make_there.ensures.spends constant writes c.args.space.now.output c.in-Some.ensures.spends)
