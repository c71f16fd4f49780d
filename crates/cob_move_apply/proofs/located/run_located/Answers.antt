use Rattle.std.proofs.Common.{ℕ, Ok}
use Rattle.cob_move_data.specs.declared.operands.Side.TheVariants.{In}
use Rattle.cob_move_apply.specs.Applied.{done}
use Rattle.cob_move_apply.specs.Surveyed.{records}
use Rattle.cob_move_apply.proofs.LocatedLemmas.{applied_located, the_located}
use Rattle.cob_move_apply.proofs.SpendingLemmas.{located_step_spends}
use Rattle.cob_move_apply.proofs.located.run_located.Goals as goal

pub run_between-requires-clause-ready : goal.run_between-requires-clause-ready
run_between-requires-clause-ready g c =
    let plan = c.args.plan.now in
    let (ready, same) = the_located In c.args.layouts.now.reading (records c.args.layouts.now) plan.prepared plan.pictured plan.located.items c.args.number c.requires.step.0 c.index-one.result.now c.requires.step.1 c.index-one.ensures in
    ready

pub returns-clause-applied : goal.returns-clause-applied
returns-clause-applied g c = λ yes own is.
    applied_located In c.args.layouts.now.reading (records c.args.layouts.now) c.args.plan.now.prepared c.args.plan.now.pictured c.args.plan.now.located.items c.args.number own c.index-one.result.now c.args.input.now c.args.output.now
    (done c.run_between.new.output) is c.index-one.ensures (c.run_between.ensures.moved yes)

pub returns-clause-spends : goal.returns-clause-spends
returns-clause-spends g c = λ yes own is.
    located_step_spends {A = ℕ} In c.args.layouts.now.reading (records c.args.layouts.now) c.args.plan.now.prepared c.args.plan.now.pictured c.args.plan.now.located.items c.args.number own c.index-one.result.now c.args.input.now c.args.output.now
    (Ok 0) c.run_between.new.output _ _ is c.index-one.ensures (c.run_between.ensures.spends yes c.args.space.now.output c.in-Some.ensures.spends)
