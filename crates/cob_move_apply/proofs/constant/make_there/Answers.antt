use Rattle.cob_move_data.specs.Moves.{operand_in}
use Rattle.cob_move_apply.specs.Surveyed.{records}
use Rattle.cob_move_apply.proofs.ConstantLemmas.{constant_has_spent, constant_moved, constant_there}
use Rattle.cob_move_apply.proofs.constant.make_there.Goals as goal

pub make_constant-requires-clause-step : goal.make_constant-requires-clause-step
make_constant-requires-clause-step c =
    let r = records c.args.layouts.now in
    let (constant, writes) = c.requires.writes in
    (constant, (operand_in r.output c.args.one.now.receiver).kind, constant_there r c.args.plan.now.constants.items c.args.one.now constant c.args.output.now c.args.to c.requires.stand writes)

pub returns-clause-moved : goal.returns-clause-moved
returns-clause-moved c = λ constant writes.
    constant_moved (records c.args.layouts.now) c.args.plan.now.constants.items c.args.one.now constant c.args.to c.args.input.now c.args.output.now c.make_constant.new.output c.requires.stand writes c.make_constant.ensures.made

pub returns-clause-spends : goal.returns-clause-spends
returns-clause-spends c = λ constant writes before spent.
    constant_has_spent (records c.args.layouts.now) c.args.plan.now.constants.items c.args.one.now constant c.args.to c.args.input.now c.args.output.now c.make_constant.new.output before _ _ c.requires.stand writes
    c.make_constant.ensures.made spent c.make_constant.ensures.spends
