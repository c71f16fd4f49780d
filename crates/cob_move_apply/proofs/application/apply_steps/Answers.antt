use Rattle.std.proofs.Common.{◌∙◌, ◌∷◌, List, arith, refl, subst}
use Rattle.std.proofs.lemmas.Result.{err_from_is_err_and}
use Rattle.cob_move_data.specs.Moves.{Records}
use Rattle.cob_move_apply.specs.Going.{Left, SpentSteps}
use Rattle.cob_move_apply.specs.Steps.{Support, support_of}
use Rattle.cob_move_apply.specs.declared.step.Step.{Step}
use Rattle.cob_move_apply.specs.Surveyed.{records}
use Rattle.cob_move_apply.proofs.SpendingLemmas.{spent_steps_all, spent_steps_next, spent_steps_stop}
use Rattle.cob_move_apply.proofs.StepLemmas.{left_made, left_none, next_step, stopped_made}
use Rattle.cob_move_apply.proofs.application.apply_steps.Goals as goal

pub make_step-requires-clause-step : goal.make_step-requires-clause-step
make_step-requires-clause-step c =
    let x = c.args.layouts.now.reading in
    let r : Records = records c.args.layouts.now in
    let on : Support = support_of c.args.plan.now in
    let step : Step = c.in-Some.step.now in
    let steps : List Step = step ∷ c.in-Some.behind.now in
    let (ms, before, all) = c.requires.steps in
    let left = subst (λ (ss : List Step). Left x r c.args.given.now ms ss on 0 c.args.input.now before c.loop-step.output) c.in-Some.ensures.cases.0 (c.loop-step.invariant.left ms before all) in
    let next = next_step x r c.args.given.now ms steps on 0 step step c.args.input.now before c.loop-step.output (omega arith) refl left in
    (next.own, next.is)

pub returns-in_err-make_step-clause-applied : goal.returns-in_err-make_step-clause-applied
returns-in_err-make_step-clause-applied c =
    let x = c.args.layouts.now.reading in
    let r : Records = records c.args.layouts.now in
    let on : Support = support_of c.args.plan.now in
    let step : Step = c.in-Some.step.now in
    let steps : List Step = step ∷ c.in-Some.behind.now in
    let p = err_from_is_err_and c.from_residual.result c.from_residual.ensures.1 in
    λ ms before all.
    let left = subst (λ (ss : List Step). Left x r c.args.given.now ms ss on 0 c.args.input.now before c.loop-step.output) c.in-Some.ensures.cases.0 (c.loop-step.invariant.left ms before all) in
    let next = next_step x r c.args.given.now ms steps on 0 step step c.args.input.now before c.loop-step.output (omega arith) refl left in
    rw (p.1, p.2) (stopped_made c.one_ending.ensures x r c.args.given.now ms steps on 0 step c.args.input.now before c.loop-step.output c.make_step.new.output c.in_err-make_step.field-0.0 c.requires.input (c.loop-step.invariant.output ∙ c.requires.output) c.make_step.auto.output next c.in_err-make_step.ensures.applied)

pub returns-in_err-make_step-clause-spends : goal.returns-in_err-make_step-clause-spends
returns-in_err-make_step-clause-spends c =
    let x = c.args.layouts.now.reading in
    let r : Records = records c.args.layouts.now in
    let on : Support = support_of c.args.plan.now in
    let step : Step = c.in-Some.step.now in
    let steps : List Step = step ∷ c.in-Some.behind.now in
    let p = err_from_is_err_and c.from_residual.result c.from_residual.ensures.1 in
    λ ms before first all.
    let spent = subst (λ (ss : List Step). SpentSteps x r c.args.given.now ms ss on 0 c.args.input.now before c.loop-step.output first c.loop-step.space.output) c.in-Some.ensures.cases.0 (c.loop-step.invariant.spends ms before first all) in
    rw p.1 (spent_steps_stop x r c.args.given.now ms steps on 0 step step c.args.input.now before c.loop-step.output first c.loop-step.space.output c.make_step.new.space.output (omega arith) refl spent c.in_err-make_step.ensures.spends)

pub run_ready-rest-requires-clause-steps : goal.run_ready-rest-requires-clause-steps
run_ready-rest-requires-clause-steps c =
    let x = c.args.layouts.now.reading in
    let r : Records = records c.args.layouts.now in
    let on : Support = support_of c.args.plan.now in
    let step : Step = c.in-Some.step.now in
    let steps : List Step = step ∷ c.in-Some.behind.now in
    let (ms, before, all) = c.requires.steps in
    let left = subst (λ (ss : List Step). Left x r c.args.given.now ms ss on 0 c.args.input.now before c.loop-step.output) c.in-Some.ensures.cases.0 (c.loop-step.invariant.left ms before all) in
    let next = next_step x r c.args.given.now ms steps on 0 step step c.args.input.now before c.loop-step.output (omega arith) refl left in
    (c.args.given.now, ms, before, left_made c.one_ending.ensures x r c.args.given.now ms steps on 0 step c.args.input.now before c.loop-step.output c.make_step.new.output c.requires.input (c.loop-step.invariant.output ∙ c.requires.output) c.make_step.auto.output next c.in_ok-make_step.ensures.applied)

pub loop-step-preserved : goal.loop-step-preserved
loop-step-preserved c =
    let x = c.args.layouts.now.reading in
    let r : Records = records c.args.layouts.now in
    let on : Support = support_of c.args.plan.now in
    let step : Step = c.in-Some.step.now in
    let steps : List Step = step ∷ c.in-Some.behind.now in
    record {
      left = λ ms before all.
          let left = subst (λ (ss : List Step). Left x r c.args.given.now ms ss on 0 c.args.input.now before c.loop-step.output) c.in-Some.ensures.cases.0 (c.loop-step.invariant.left ms before all) in
          let next = next_step x r c.args.given.now ms steps on 0 step step c.args.input.now before c.loop-step.output (omega arith) refl left in
          c.run_ready-rest.ensures.left c.args.given.now ms before (left_made c.one_ending.ensures x r c.args.given.now ms steps on 0 step c.args.input.now before c.loop-step.output c.make_step.new.output c.requires.input (c.loop-step.invariant.output ∙ c.requires.output) c.make_step.auto.output next c.in_ok-make_step.ensures.applied);
      output = c.run_ready-rest.auto.output ∙ (c.make_step.auto.output ∙ c.loop-step.invariant.output);
      space = c.run_ready-rest.ensures.space;
      spends = λ ms before first all.
          let spent = subst (λ (ss : List Step). SpentSteps x r c.args.given.now ms ss on 0 c.args.input.now before c.loop-step.output first c.loop-step.space.output) c.in-Some.ensures.cases.0 (c.loop-step.invariant.spends ms before first all) in
          c.run_ready-rest.ensures.spends c.args.given.now ms before first (spent_steps_next x r c.args.given.now ms steps on 0 step step c.args.input.now before c.loop-step.output c.make_step.new.output first c.loop-step.space.output c.make_step.new.space.output (omega arith) refl spent c.in_ok-make_step.ensures.spends);
    }

pub returns-clause-applied : goal.returns-clause-applied
returns-clause-applied c =
    λ ms before all. left_none c.args.layouts.now.reading (records c.args.layouts.now) c.args.given.now ms c.loop-step.rest.now (support_of c.args.plan.now) 0 c.args.input.now before c.loop-step.output (omega (arith, c.in_default.ensures.cases)) (c.loop-step.invariant.left ms before all)

pub returns-clause-spends : goal.returns-clause-spends
returns-clause-spends c =
    λ ms before first all. spent_steps_all c.args.layouts.now.reading (records c.args.layouts.now) c.args.given.now ms c.loop-step.rest.now (support_of c.args.plan.now) 0 c.args.input.now before c.loop-step.output first c.loop-step.space.output (omega (arith, c.in_default.ensures.cases)) (c.loop-step.invariant.spends ms before first all)
