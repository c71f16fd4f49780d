use Rattle.std.proofs.Common.{arith}
use Rattle.cob_move_data.specs.Moves.{Records}
use Rattle.cob_move_apply.specs.Steps.{Support, support_of}
use Rattle.cob_move_apply.specs.Surveyed.{records}
use Rattle.cob_move_apply.proofs.SpendingLemmas.{spent_steps_all, spent_steps_first}
use Rattle.cob_move_apply.proofs.StepLemmas.{left_all, left_none}
use Rattle.cob_move_apply.proofs.application.apply_some.Goals as goal

pub run_ready-rest-requires-clause-steps : goal.run_ready-rest-requires-clause-steps
run_ready-rest-requires-clause-steps c =
    let x = c.args.layouts.now.reading in
    let r : Records = records c.args.layouts.now in
    let on : Support = support_of c.args.plan.now in
    let (ms, all) = c.requires.steps in
    (c.args.given.now, ms, c.args.output.now, left_all c.one_outcome_of_counts.ensures.needed x r c.args.given.now ms c.args.steps.now on c.args.input.now c.args.output.now c.requires.output all)

pub apply_steps-requires-clause-steps : goal.apply_steps-requires-clause-steps
apply_steps-requires-clause-steps c =
    let x = c.args.layouts.now.reading in
    let r : Records = records c.args.layouts.now in
    let on : Support = support_of c.args.plan.now in
    let (ms, all) = c.requires.steps in
    (ms, c.args.output.now, c.run_ready-rest.ensures.left c.args.given.now ms c.args.output.now (left_all c.one_outcome_of_counts.ensures.needed x r c.args.given.now ms c.args.steps.now on c.args.input.now c.args.output.now c.requires.output all))

pub returns-in-empty-clause-applied : goal.returns-in-empty-clause-applied
returns-in-empty-clause-applied c = λ ms all.
    let x = c.args.layouts.now.reading in
    let r : Records = records c.args.layouts.now in
    let on : Support = support_of c.args.plan.now in
    left_none x r c.args.given.now ms c.run_ready-rest.result.now on 0 c.args.input.now c.args.output.now c.run_ready-rest.new.output (omega (arith, c.in-empty.len_below))
    (c.run_ready-rest.ensures.left c.args.given.now ms c.args.output.now (left_all c.one_outcome_of_counts.ensures.needed x r c.args.given.now ms c.args.steps.now on c.args.input.now c.args.output.now c.requires.output all))

pub returns-in-empty-clause-spends : goal.returns-in-empty-clause-spends
returns-in-empty-clause-spends c = λ ms all.
    let x = c.args.layouts.now.reading in
    let r : Records = records c.args.layouts.now in
    let on : Support = support_of c.args.plan.now in
    spent_steps_all x r c.args.given.now ms c.run_ready-rest.result.now on 0 c.args.input.now c.args.output.now c.run_ready-rest.new.output c.args.space.now.output c.run_ready-rest.new.space.output (omega (arith, c.in-empty.len_below))
    (c.run_ready-rest.ensures.spends c.args.given.now ms c.args.output.now c.args.space.now.output (spent_steps_first c.one_outcome_of_counts.ensures.needed x r c.args.given.now ms c.args.steps.now on c.args.input.now c.args.output.now c.args.space.now.output all))

pub returns-in_default-clause-applied : goal.returns-in_default-clause-applied
returns-in_default-clause-applied c = rw c.parts_again.ensures (λ ms all.
    let x = c.args.layouts.now.reading in
    let r : Records = records c.args.layouts.now in
    let on : Support = support_of c.args.plan.now in
    c.apply_steps.ensures.applied ms c.args.output.now
    (c.run_ready-rest.ensures.left c.args.given.now ms c.args.output.now (left_all c.one_outcome_of_counts.ensures.needed x r c.args.given.now ms c.args.steps.now on c.args.input.now c.args.output.now c.requires.output all)))

pub returns-in_default-clause-spends : goal.returns-in_default-clause-spends
returns-in_default-clause-spends c = rw c.parts_again.ensures (λ ms all.
    let x = c.args.layouts.now.reading in
    let r : Records = records c.args.layouts.now in
    let on : Support = support_of c.args.plan.now in
    c.apply_steps.ensures.spends ms c.args.output.now c.args.space.now.output
    (c.run_ready-rest.ensures.spends c.args.given.now ms c.args.output.now c.args.space.now.output (spent_steps_first c.one_outcome_of_counts.ensures.needed x r c.args.given.now ms c.args.steps.now on c.args.input.now c.args.output.now c.args.space.now.output all)))
