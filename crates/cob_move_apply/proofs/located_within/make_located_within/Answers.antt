use Rattle.cob_move_data.specs.declared.operands.Side.TheVariants.{Out}
use Rattle.cob_move_apply.specs.Applied.{ending}
use Rattle.cob_move_apply.specs.Surveyed.{records}
use Rattle.cob_move_apply.proofs.LocatedLemmas.{applied_located}
use Rattle.cob_move_apply.proofs.SpendingLemmas.{located_step_spends}
use Rattle.cob_move_apply.proofs.located_within.make_located_within.Goals as goal

pub returns-clause-applied : goal.returns-clause-applied
returns-clause-applied c = λ own is.
    applied_located Out c.args.layouts.now.reading (records c.args.layouts.now) c.args.plan.now.prepared c.args.plan.now.pictured c.args.plan.now.within.items c.args.number own c.index-one.result.now c.args.input.now c.args.output.now
    (ending c.move_unready.result c.move_unready.new.output) is c.index-one.ensures c.move_unready.ensures.moved

pub returns-clause-spends : goal.returns-clause-spends
returns-clause-spends c = λ own is.
    located_step_spends Out c.args.layouts.now.reading (records c.args.layouts.now) c.args.plan.now.prepared c.args.plan.now.pictured c.args.plan.now.within.items c.args.number own c.index-one.result.now c.args.input.now c.args.output.now
    c.move_unready.result c.move_unready.new.output _ _ is c.index-one.ensures c.move_unready.ensures.spends
