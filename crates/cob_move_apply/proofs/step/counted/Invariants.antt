use Rattle.std.proofs.Common.{◌≡◌, ◌+◌, drop, min}
use Rattle.cob_move_apply.specs.Planned.{counted_steps}
use Rattle.cob_move_apply.specs.Told.{most_moves_told}
use Rattle.cob_move_apply.proofs.step.counted.Given as goal

abbrev pub invariant-loop-step : goal.invariant-loop-step
invariant-loop-step l = min (l.count + counted_steps (drop l.step-index l.steps)) most_moves_told ≡ min (counted_steps l.steps) most_moves_told
