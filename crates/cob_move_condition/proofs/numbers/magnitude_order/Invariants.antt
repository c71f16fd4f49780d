use Rattle.std.proofs.Common.{◌≡◌, ◌-◌, ◌*◌, ◌/◌, ◌^◌}
use Rattle.cob_decimal.specs.Decimal.{number_of}
use Rattle.cob_move_condition.proofs.numbers.magnitude_order.Given as goal

abbrev pub invariant-loop-step : goal.invariant-loop-step
invariant-loop-step l = number_of l.first * 10 ^ l.finer / 10 ^ (l.size - l.step) ≡ number_of l.second * 10 ^ l.second_finer / 10 ^ (l.size - l.step)
