use Rattle.std.proofs.Common.{ℕ, Ok, Err, subst, sym, true}
use Rattle.cob_move_data.specs.declared.operands.Operand.{Operand}
use Rattle.cob_move_data.specs.declared.operands.Side.TheVariants.{Out}
use Rattle.cob_move_data.specs.Moves.{operand_in}
use Rattle.cob_move_receive.specs.Sent.{Occupies}
use Rattle.cob_move_apply.specs.Applied.{done, stopped}
use Rattle.cob_move_apply.specs.Located.{Located}
use Rattle.cob_move_apply.specs.Placed.{IsPlaced}
use Rattle.cob_move_apply.specs.Surveyed.{records}
use Rattle.cob_move_apply.specs.declared.basis.Basis.{Basis}
use Rattle.cob_move_apply.proofs.ConstantLemmas.{applied_constant, constant_step_spends, constant_stops, the_located_constant}
use Rattle.cob_move_apply.proofs.SpendingLemmas.{stopped_spends}
use Rattle.cob_move_apply.proofs.constant.make_located_constant.Goals as goal

pub placed_operand-receiver-requires-clause-operand : goal.placed_operand-receiver-requires-clause-operand
placed_operand-receiver-requires-clause-operand c =
    let (own, is) = c.requires.step in
    let (constant, ready, same) = the_located_constant (records c.args.layouts.now) c.args.plan.now.constants.items c.args.plan.now.located_constants.items c.args.number own c.index-one.result.now is c.index-one.ensures in
    ready.receives.operand

pub locate-requires-clause-placed : goal.locate-requires-clause-placed
locate-requires-clause-placed c =
    let (own, is) = c.requires.step in
    let (constant, ready, same) = the_located_constant (records c.args.layouts.now) c.args.plan.now.constants.items c.args.plan.now.located_constants.items c.args.number own c.index-one.result.now is c.index-one.ensures in
    let tree = c.args.layouts.now.output.now in
    let placed = c.placed_operand-receiver in
    subst (λ (o : Operand). IsPlaced tree true o placed.result.basis.now) (sym placed.ensures.operand)
    (subst (λ (b : Basis). IsPlaced tree true (operand_in tree c.index-one.result.now.receiver) b) (sym placed.ensures.basis) ready.receives)

pub make_there-requires-clause-writes : goal.make_there-requires-clause-writes
make_there-requires-clause-writes c =
    let (own, is) = c.requires.step in
    let (constant, ready, same) = the_located_constant (records c.args.layouts.now) c.args.plan.now.constants.items c.args.plan.now.located_constants.items c.args.number own c.index-one.result.now is c.index-one.ensures in
    (constant, ready.writes)

pub make_there-requires-clause-stand : goal.make_there-requires-clause-stand
make_there-requires-clause-stand c =
    let tree = c.args.layouts.now.output.now in
    let to = c.in-Ok.to in record {
      receives = subst (λ (o : Operand). Located Out tree true o c.args.output.now (Ok to)) c.placed_operand-receiver.ensures.operand c.in-Ok.ensures.located;
      within = c.in-Ok.ensures.fits;
      received = subst (λ (o : Operand). Occupies o.kind to.length) c.placed_operand-receiver.ensures.operand c.in-Ok.ensures.filled;
    }

pub returns-in-Ok-clause-applied : goal.returns-in-Ok-clause-applied
returns-in-Ok-clause-applied c = λ own is.
    applied_constant (records c.args.layouts.now) c.args.plan.now.constants.items c.args.plan.now.located_constants.items c.args.number own c.index-one.result.now c.args.input.now c.args.output.now
    (done c.make_there.new.output) is c.index-one.ensures c.make_there.ensures.moved

pub returns-in-Ok-clause-spends : goal.returns-in-Ok-clause-spends
returns-in-Ok-clause-spends c = λ own is.
    constant_step_spends {A = ℕ} (records c.args.layouts.now) c.args.plan.now.constants.items c.args.plan.now.located_constants.items c.args.number own c.index-one.result.now c.args.input.now c.args.output.now
    (Ok 0) c.make_there.new.output _ _ is c.index-one.ensures (λ constant writes. c.make_there.ensures.spends constant writes c.args.space.now.output c.in-Ok.ensures.spends)

pub returns-in-Err-clause-applied : goal.returns-in-Err-clause-applied
returns-in-Err-clause-applied c = λ own is.
    applied_constant (records c.args.layouts.now) c.args.plan.now.constants.items c.args.plan.now.located_constants.items c.args.number own c.index-one.result.now c.args.input.now c.args.output.now
    (stopped c.in-Err.stop c.args.output.now) is c.index-one.ensures
    (λ constant writes. constant_stops (records c.args.layouts.now) constant c.index-one.result.now.receiver c.args.input.now c.args.output.now c.in-Err.stop
    (subst (λ (o : Operand). Located Out c.args.layouts.now.output.now true o c.args.output.now (Err c.in-Err.stop)) c.placed_operand-receiver.ensures.operand c.in-Err.ensures.located))

pub returns-in-Err-clause-spends : goal.returns-in-Err-clause-spends
returns-in-Err-clause-spends c = λ own is.
    stopped_spends (records c.args.layouts.now) own c.args.input.now c.args.output.now _ _ c.in-Err.ensures.spends
