use Rattle.std.proofs.Common.{ℕ, Ok}
use Rattle.cob_move_data.specs.declared.operands.Side.TheVariants.{Out}
use Rattle.cob_move_apply.specs.Applied.{done}
use Rattle.cob_move_apply.specs.Surveyed.{records}
use Rattle.cob_move_apply.proofs.LocatedLemmas.{applied_located, the_located}
use Rattle.cob_move_apply.proofs.SpendingLemmas.{located_step_spends}
use Rattle.cob_move_apply.proofs.SpentLemmas.{spent_behind}
use Rattle.cob_move_apply.proofs.located_within.run_located_within.Goals as goal

pub run_there-requires-clause-ready : goal.run_there-requires-clause-ready
run_there-requires-clause-ready c =
    let plan = c.args.plan.now in
    let (ready, same) = the_located Out c.args.layouts.now.reading (records c.args.layouts.now) plan.prepared plan.pictured plan.within.items c.args.number c.requires.step.0 c.index-one.result.now c.requires.step.1 c.index-one.ensures in
    ready

pub returns-clause-applied : goal.returns-clause-applied
returns-clause-applied c = λ yes own is.
    applied_located Out c.args.layouts.now.reading (records c.args.layouts.now) c.args.plan.now.prepared c.args.plan.now.pictured c.args.plan.now.within.items c.args.number own c.index-one.result.now c.args.input.now c.args.output.now
    (done c.run_there.new.output) is c.index-one.ensures (c.run_there.ensures.moved yes)

pub returns-clause-spends : goal.returns-clause-spends
returns-clause-spends c = λ yes own is.
    located_step_spends {A = ℕ} Out c.args.layouts.now.reading (records c.args.layouts.now) c.args.plan.now.prepared c.args.plan.now.pictured c.args.plan.now.within.items c.args.number own c.index-one.result.now c.args.input.now c.args.output.now
    (Ok 0) c.run_there.new.output _ _ is c.index-one.ensures (c.run_there.ensures.spends yes c.args.space.now.output c.in-Some.ensures.spends)

pub returns-clause-same : goal.returns-clause-same
returns-clause-same c = λ no.
    let (same, spent) = c.run_there.ensures.same no in
    (same, spent_behind c.args.layouts.now.output.now 0 _ _ _ c.in-Some.ensures.spends spent)
