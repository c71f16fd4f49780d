use Rattle.std.proofs.Common.{Bool, ℕ, Ok, arith, subst}
use Rattle.cob_move_data.specs.declared.operands.Side.TheVariants.{Out}
use Rattle.cob_move_apply.specs.Applied.{done}
use Rattle.cob_move_apply.specs.Made.{IsMadeReady}
use Rattle.cob_move_apply.specs.Surveyed.{records}
use Rattle.cob_move_apply.specs.Written.{ended}
use Rattle.cob_move_apply.specs.declared.step.PreparedMove.{PreparedMove}
use Rattle.cob_move_apply.proofs.StepLemmas.{made_prepared, prepared_within, the_prepared}
use Rattle.cob_move_apply.proofs.SpendingLemmas.{prepared_spends}
use Rattle.cob_move_apply.proofs.WithinLemmas.{survey_made}
use Rattle.cob_move_apply.proofs.within.run_onwards.Goals as goal

pub step_onwards-requires-clause-step : goal.step_onwards-requires-clause-step
step_onwards-requires-clause-step c =
    let p : PreparedMove = record { places = c.args.places.now; step = c.args.step } in
    the_prepared Out c.args.layouts.now.reading (records c.args.layouts.now) c.args.plan.now.prepared p c.requires.step.0 c.requires.step.1

pub step_onwards-requires-clause-within : goal.step_onwards-requires-clause-within
step_onwards-requires-clause-within c =
    let p : PreparedMove = record { places = c.args.places.now; step = c.args.step } in
    omega (arith, c.requires.output, prepared_within Out c.args.layouts.now.reading (records c.args.layouts.now) c.args.plan.now.prepared p c.requires.step.0 c.requires.step.1)

pub returns-then-step_onwards-clause-applied : goal.returns-then-step_onwards-clause-applied
returns-then-step_onwards-clause-applied c = λ yes own is.
    let p : PreparedMove = record { places = c.args.places.now; step = c.args.step } in
    made_prepared Out c.args.layouts.now.reading (records c.args.layouts.now) c.args.plan.now.prepared p own c.args.input.now c.args.output.now (done c.step_onwards.new.storage) c.requires.keeps c.requires.input c.requires.output
    (subst (λ (b : Bool). IsMadeReady Out p c.args.plan.now.prepared c.args.output.now c.args.output.now (ended Out c.args.places.now b c.step_onwards.new.storage)) c.if-step_onwards.true c.step_onwards.ensures.made) is

pub returns-then-step_onwards-clause-space : goal.returns-then-step_onwards-clause-space
returns-then-step_onwards-clause-space c =
    let p : PreparedMove = record { places = c.args.places.now; step = c.args.step } in
    let (k, at, has) = the_prepared Out c.args.layouts.now.reading (records c.args.layouts.now) c.args.plan.now.prepared p c.requires.step.0 c.requires.step.1 in
    let within = prepared_within Out c.args.layouts.now.reading (records c.args.layouts.now) c.args.plan.now.prepared p c.requires.step.0 c.requires.step.1 in record {
      surveyed_input = c.requires.space.surveyed_input;
      surveyed_output = survey_made c.args.layouts.now.output.now p c.args.plan.now.prepared k c.args.output.now c.step_onwards.new.storage _ _ at has (omega (arith, within, c.requires.output)) c.step_onwards.auto.storage
          (subst (λ (b : Bool). IsMadeReady Out p c.args.plan.now.prepared c.args.output.now c.args.output.now (ended Out c.args.places.now b c.step_onwards.new.storage)) c.if-step_onwards.true c.step_onwards.ensures.made)
          c.change_output.ensures.survey c.requires.space.surveyed_output;
      content = c.requires.space.content;
    }

pub returns-then-step_onwards-clause-spends : goal.returns-then-step_onwards-clause-spends
returns-then-step_onwards-clause-spends c = λ yes own is.
    let p : PreparedMove = record { places = c.args.places.now; step = c.args.step } in
    prepared_spends {A = ℕ} Out c.args.layouts.now.reading (records c.args.layouts.now) c.args.plan.now.prepared p own c.args.input.now c.args.output.now (Ok 0) c.step_onwards.new.storage _ _ c.requires.keeps
    (subst (λ (b : Bool). IsMadeReady Out p c.args.plan.now.prepared c.args.output.now c.args.output.now (ended Out c.args.places.now b c.step_onwards.new.storage)) c.if-step_onwards.true c.step_onwards.ensures.made)
    (c.change_output.ensures.spends c.args.output.now c.requires.space.surveyed_output) is
