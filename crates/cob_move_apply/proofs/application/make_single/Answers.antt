use Rattle.cob_move_data.specs.declared.operands.Side.TheVariants.{In}
use Rattle.cob_move_apply.specs.Applied.{ending}
use Rattle.cob_move_apply.specs.Surveyed.{records}
use Rattle.cob_move_apply.specs.declared.step.PreparedMove.{PreparedMove}
use Rattle.cob_move_apply.proofs.StepLemmas.{made_prepared, prepared_reads, prepared_within, the_prepared}
use Rattle.cob_move_apply.proofs.SpendingLemmas.{prepared_spends}
use Rattle.cob_move_apply.proofs.application.make_single.Goals as goal

pub make_prepared-requires-clause-step : goal.make_prepared-requires-clause-step
make_prepared-requires-clause-step c =
    let p : PreparedMove = record { places = c.args.places.now; step = c.args.step } in
    the_prepared In c.args.layouts.now.reading (records c.args.layouts.now) c.args.plan.now.prepared p c.requires.step.0 c.requires.step.1

pub make_prepared-requires-clause-reads : goal.make_prepared-requires-clause-reads
make_prepared-requires-clause-reads c =
    let p : PreparedMove = record { places = c.args.places.now; step = c.args.step } in
    prepared_reads In c.args.layouts.now.reading (records c.args.layouts.now) c.args.plan.now.prepared p c.requires.step.0 c.args.input.now c.args.output.now c.requires.step.1 c.requires.input c.requires.output

pub make_prepared-requires-clause-writes : goal.make_prepared-requires-clause-writes
make_prepared-requires-clause-writes c =
    let p : PreparedMove = record { places = c.args.places.now; step = c.args.step } in
    prepared_within In c.args.layouts.now.reading (records c.args.layouts.now) c.args.plan.now.prepared p c.requires.step.0 c.requires.step.1

pub returns-clause-applied : goal.returns-clause-applied
returns-clause-applied c = λ own is.
    let p : PreparedMove = record { places = c.args.places.now; step = c.args.step } in
    made_prepared In c.args.layouts.now.reading (records c.args.layouts.now) c.args.plan.now.prepared p own c.args.input.now c.args.output.now (ending c.make_prepared.result c.make_prepared.new.output)
    c.requires.keeps c.requires.input c.requires.output c.make_prepared.ensures.made is

pub returns-clause-spends : goal.returns-clause-spends
returns-clause-spends c = λ own is.
    let p : PreparedMove = record { places = c.args.places.now; step = c.args.step } in
    prepared_spends In c.args.layouts.now.reading (records c.args.layouts.now) c.args.plan.now.prepared p own c.args.input.now c.args.output.now c.make_prepared.result c.make_prepared.new.output _ _
    c.requires.keeps c.make_prepared.ensures.made c.make_prepared.ensures.spends is
