use Rattle.std.proofs.Common.{arith}
use Rattle.cob_move_apply.specs.Planned.{counted_steps}
use Rattle.cob_move_apply.specs.Told.{most_moves_told}
use Rattle.cob_move_apply.proofs.JoinLemmas.{steps_all, steps_on}
use Rattle.cob_move_apply.proofs.step.counted.Goals as goal

pub loop-step-preserved : goal.loop-step-preserved
loop-step-preserved c =
    steps_on c.args.steps.now c.loop-step.step-index _ c.loop-step.count c.step_count.result c.saturating_add-count.result (counted_steps c.args.steps.now) most_moves_told 18446744073709551615
    c.loop-step-test.true c.step_count.ensures (omega arith) c.saturating_add-count.ensures c.loop-step.invariant

pub returns : goal.returns
returns c =
    steps_all c.args.steps.now c.loop-step.step-index c.loop-step.count c.at_most_u32.result (counted_steps c.args.steps.now) most_moves_told c.loop-step-test.false c.at_most_u32.ensures c.loop-step.invariant
