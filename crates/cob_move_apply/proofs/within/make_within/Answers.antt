use Rattle.std.proofs.Common.{◌≡◌, ◌∙◌, Bool, ℕ, List, Ok, Err, ap, arith, length, sym, subst}
use Rattle.cob_move_data.specs.declared.operands.Side.TheVariants.{Out}
use Rattle.cob_move_apply.specs.Applied.{done, stopped}
use Rattle.cob_move_apply.specs.Located.{stop_at}
use Rattle.cob_move_apply.specs.Made.{IsMadeReady}
use Rattle.cob_move_apply.specs.Surveyed.{IsSurvey, records}
use Rattle.cob_move_apply.specs.Written.{ended}
use Rattle.cob_move_apply.specs.declared.stop.StopCause.TheVariants.{NoValue}
use Rattle.cob_move_apply.specs.declared.step.PreparedMove.{PreparedMove}
use Rattle.cob_move_apply.proofs.ReceiverLemmas.{front_is}
use Rattle.cob_move_apply.proofs.StepLemmas.{made_prepared, prepared_reads, prepared_within, the_prepared}
use Rattle.cob_move_apply.proofs.SpendingLemmas.{prepared_spends}
use Rattle.cob_move_apply.proofs.SpentLemmas.{spent_none}
use Rattle.cob_move_apply.proofs.WithinLemmas.{survey_made}
use Rattle.cob_move_apply.proofs.within.make_within.Goals as goal

pub step_anywhere-requires-clause-step : goal.step_anywhere-requires-clause-step
step_anywhere-requires-clause-step c =
    let p : PreparedMove = record { places = c.args.places.now; step = c.args.step } in
    the_prepared Out c.args.layouts.now.reading (records c.args.layouts.now) c.args.plan.now.prepared p c.requires.step.0 c.requires.step.1

pub step_anywhere-requires-clause-reads : goal.step_anywhere-requires-clause-reads
step_anywhere-requires-clause-reads c =
    let p : PreparedMove = record { places = c.args.places.now; step = c.args.step } in
    prepared_reads Out c.args.layouts.now.reading (records c.args.layouts.now) c.args.plan.now.prepared p c.requires.step.0 c.args.input.now c.args.output.now c.requires.step.1 c.requires.input c.requires.output

pub step_anywhere-requires-clause-writes : goal.step_anywhere-requires-clause-writes
step_anywhere-requires-clause-writes c =
    let p : PreparedMove = record { places = c.args.places.now; step = c.args.step } in
    omega (arith, c.requires.output, prepared_within Out c.args.layouts.now.reading (records c.args.layouts.now) c.args.plan.now.prepared p c.requires.step.0 c.requires.step.1)

pub step_anywhere-requires-clause-room : goal.step_anywhere-requires-clause-room
step_anywhere-requires-clause-room c = ap length c.as_mut_slice-content.ensures.value ∙ (c.requires.space.content ∙ sym c.requires.output)

pub returns-then-step_anywhere-clause-applied : goal.returns-then-step_anywhere-clause-applied
returns-then-step_anywhere-clause-applied c = λ own is.
    let p : PreparedMove = record { places = c.args.places.now; step = c.args.step } in
    made_prepared Out c.args.layouts.now.reading (records c.args.layouts.now) c.args.plan.now.prepared p own c.args.input.now c.args.output.now (done c.step_anywhere.new.storage) c.requires.keeps c.requires.input c.requires.output
    (subst (λ (b : Bool). IsMadeReady Out p c.args.plan.now.prepared c.args.output.now c.args.output.now (ended Out c.args.places.now b c.step_anywhere.new.storage)) c.if-step_anywhere.true c.step_anywhere.ensures.made) is

pub returns-then-step_anywhere-clause-space : goal.returns-then-step_anywhere-clause-space
returns-then-step_anywhere-clause-space c =
    let room : c.args.space.now.content.len ≡ length c.step_anywhere.new.content =
    omega (arith, c.args.space.now.content.ok.0, c.step_anywhere.auto.content, ap length c.as_mut_slice-content.ensures.value) in
    let p : PreparedMove = record { places = c.args.places.now; step = c.args.step } in
    let (k, at, has) = the_prepared Out c.args.layouts.now.reading (records c.args.layouts.now) c.args.plan.now.prepared p c.requires.step.0 c.requires.step.1 in
    let within = prepared_within Out c.args.layouts.now.reading (records c.args.layouts.now) c.args.plan.now.prepared p c.requires.step.0 c.requires.step.1 in record {
      surveyed_input = c.requires.space.surveyed_input;
      surveyed_output = survey_made c.args.layouts.now.output.now p c.args.plan.now.prepared k c.args.output.now c.step_anywhere.new.storage _ _ at has (omega (arith, within, c.requires.output)) c.step_anywhere.auto.storage
          (subst (λ (b : Bool). IsMadeReady Out p c.args.plan.now.prepared c.args.output.now c.args.output.now (ended Out c.args.places.now b c.step_anywhere.new.storage)) c.if-step_anywhere.true c.step_anywhere.ensures.made)
          c.change_output.ensures.survey c.requires.space.surveyed_output;
      content = ap length (front_is c.args.space.now.content.len c.step_anywhere.new.content _ room) ∙ (c.step_anywhere.auto.content ∙ (ap length c.as_mut_slice-content.ensures.value ∙ c.requires.space.content));
    }

pub returns-then-step_anywhere-clause-spends : goal.returns-then-step_anywhere-clause-spends
returns-then-step_anywhere-clause-spends c = λ own is.
    let p : PreparedMove = record { places = c.args.places.now; step = c.args.step } in
    prepared_spends {A = ℕ} Out c.args.layouts.now.reading (records c.args.layouts.now) c.args.plan.now.prepared p own c.args.input.now c.args.output.now (Ok 0) c.step_anywhere.new.storage _ _ c.requires.keeps
    (subst (λ (b : Bool). IsMadeReady Out p c.args.plan.now.prepared c.args.output.now c.args.output.now (ended Out c.args.places.now b c.step_anywhere.new.storage)) c.if-step_anywhere.true c.step_anywhere.ensures.made)
    (c.change_output.ensures.spends c.args.output.now c.requires.space.surveyed_output) is

pub returns-else-step_anywhere-clause-applied : goal.returns-else-step_anywhere-clause-applied
returns-else-step_anywhere-clause-applied c = λ own is.
    let p : PreparedMove = record { places = c.args.places.now; step = c.args.step } in
    made_prepared Out c.args.layouts.now.reading (records c.args.layouts.now) c.args.plan.now.prepared p own c.args.input.now c.args.output.now (stopped (stop_at Out c.args.places.now.from.offset NoValue) c.step_anywhere.new.storage) c.requires.keeps c.requires.input c.requires.output
    (subst (λ (b : Bool). IsMadeReady Out p c.args.plan.now.prepared c.args.output.now c.args.output.now (ended Out c.args.places.now b c.step_anywhere.new.storage)) c.if-step_anywhere.false c.step_anywhere.ensures.made) is

pub returns-else-step_anywhere-clause-space : goal.returns-else-step_anywhere-clause-space
returns-else-step_anywhere-clause-space c =
    let room : c.args.space.now.content.len ≡ length c.step_anywhere.new.content =
    omega (arith, c.args.space.now.content.ok.0, c.step_anywhere.auto.content, ap length c.as_mut_slice-content.ensures.value) in
    record {
      surveyed_input = c.requires.space.surveyed_input;
      surveyed_output = subst (λ (bytes : List ℕ). IsSurvey c.args.layouts.now.output.now bytes c.args.space.now.output) (sym (c.step_anywhere.ensures.same c.if-step_anywhere.false)) c.requires.space.surveyed_output;
      content = ap length (front_is c.args.space.now.content.len c.step_anywhere.new.content _ room) ∙ (c.step_anywhere.auto.content ∙ (ap length c.as_mut_slice-content.ensures.value ∙ c.requires.space.content));
    }

pub returns-else-step_anywhere-clause-spends : goal.returns-else-step_anywhere-clause-spends
returns-else-step_anywhere-clause-spends c = λ own is.
    let p : PreparedMove = record { places = c.args.places.now; step = c.args.step } in
    prepared_spends {A = ℕ} Out c.args.layouts.now.reading (records c.args.layouts.now) c.args.plan.now.prepared p own c.args.input.now c.args.output.now (Err (stop_at Out c.args.places.now.from.offset NoValue)) c.step_anywhere.new.storage _ _ c.requires.keeps
    (subst (λ (b : Bool). IsMadeReady Out p c.args.plan.now.prepared c.args.output.now c.args.output.now (ended Out c.args.places.now b c.step_anywhere.new.storage)) c.if-step_anywhere.false c.step_anywhere.ensures.made)
    (spent_none c.args.layouts.now.output.now c.args.space.now.output) is

pub returns-else-step_anywhere-clause-same : goal.returns-else-step_anywhere-clause-same
returns-else-step_anywhere-clause-same c = (c.step_anywhere.ensures.same c.if-step_anywhere.false, spent_none c.args.layouts.now.output.now c.args.space.now.output)
