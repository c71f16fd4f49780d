use Rattle.std.proofs.Common.{◌∙◌, ◌∷◌, List, ap, arith, length, refl, subst}
use Rattle.cob_move_data.specs.Moves.{Records}
use Rattle.cob_move_apply.specs.Going.{Left, SpentSteps}
use Rattle.cob_move_apply.specs.Steps.{IsStep, Support, support_of}
use Rattle.cob_move_apply.specs.declared.step.Step.{Step}
use Rattle.cob_move_apply.specs.Surveyed.{records}
use Rattle.cob_move_apply.proofs.SpendingLemmas.{spent_steps_next, spent_still}
use Rattle.cob_move_apply.proofs.StepLemmas.{left_made, left_same, next_step}
use Rattle.cob_move_apply.proofs.application.run_located_steps.Goals as goal

pub run_located-requires-clause-step : goal.run_located-requires-clause-step
run_located-requires-clause-step g c =
    let x = c.args.layouts.now.reading in
    let r : Records = records c.args.layouts.now in
    let on : Support = support_of c.args.plan.now in
    let step : Step = c.in-Some.step.now in
    let steps : List Step = step ∷ c.in-Some.next.now in
    let (given, ms, before, all) = c.requires.steps in
    let left = subst (λ (ss : List Step). Left x r given ms ss on 0 c.args.input.now before c.loop-step.output) c.in-Some.ensures.cases.0 (c.loop-step.invariant.left given ms before all) in
    let next = next_step x r given ms steps on 0 step step c.args.input.now before c.loop-step.output (omega arith) refl left in
    (next.own, subst (λ (s : Step). IsStep x r given on s next.own) c.in-Located.is next.is)

pub returns-then-not-run_located-clause-left : goal.returns-then-not-run_located-clause-left
returns-then-not-run_located-clause-left g c = λ given ms before all.
    left_same c.args.layouts.now.reading (records c.args.layouts.now) given ms c.loop-step.left.now (support_of c.args.plan.now) 0 c.args.input.now before c.loop-step.output c.run_located.new.output
    (c.if-not-run_located.ensures.same refl).0 (c.loop-step.invariant.left given ms before all)

pub returns-then-not-run_located-clause-spends : goal.returns-then-not-run_located-clause-spends
returns-then-not-run_located-clause-spends g c = λ given ms before first all.
    spent_still c.args.layouts.now.reading (records c.args.layouts.now) given ms c.loop-step.left.now (support_of c.args.plan.now) 0 c.args.input.now before c.loop-step.output c.run_located.new.output
    first c.loop-step.space.output c.run_located.new.space.output (c.if-not-run_located.ensures.same refl).0 (c.if-not-run_located.ensures.same refl).1 (c.loop-step.invariant.spends given ms before first all)

pub loop-step-preserved : goal.loop-step-preserved
loop-step-preserved g c =
    let x = c.args.layouts.now.reading in
    let r : Records = records c.args.layouts.now in
    let on : Support = support_of c.args.plan.now in
    let step : Step = c.in-Some.step.now in
    let steps : List Step = step ∷ c.in-Some.next.now in
    record {
      left = λ given ms before all.
          let left = subst (λ (ss : List Step). Left x r given ms ss on 0 c.args.input.now before c.loop-step.output) c.in-Some.ensures.cases.0 (c.loop-step.invariant.left given ms before all) in
          let next = next_step x r given ms steps on 0 step step c.args.input.now before c.loop-step.output (omega arith) refl left in
          left_made c.one_ending.ensures x r given ms steps on 0 step c.args.input.now before c.loop-step.output c.run_located.new.output c.requires.input (c.loop-step.invariant.output ∙ c.requires.output) c.run_located.auto.output next (λ own is. c.if-not-run_located.ensures.applied refl own (subst (λ (s : Step). IsStep x r given on s own) c.in-Located.is is));
      output = c.run_located.auto.output ∙ c.loop-step.invariant.output;
      space = c.run_located.ensures.space;
      spends = λ given ms before first all.
          let spent = subst (λ (ss : List Step). SpentSteps x r given ms ss on 0 c.args.input.now before c.loop-step.output first c.loop-step.space.output) c.in-Some.ensures.cases.0 (c.loop-step.invariant.spends given ms before first all) in
          spent_steps_next x r given ms steps on 0 step step c.args.input.now before c.loop-step.output c.run_located.new.output
          first c.loop-step.space.output c.run_located.new.space.output (omega arith) refl spent (λ own is. c.if-not-run_located.ensures.spends refl own (subst (λ (s : Step). IsStep x r given on s own) c.in-Located.is is));
      fewer = omega (arith, c.loop-step.invariant.fewer, ap length c.in-Some.ensures.cases.0);
    }
