use Rattle.std.proofs.Common.{◌≡◌, ◌≤◌, ◌-◌, drop, length}
use Rattle.cob_move_condition.specs.Compared.{text_order}
use Rattle.cob_move_constants.proofs.laying.order_of_equals.Given as goal

abbrev pub invariant-loop-at : goal.invariant-loop-at
invariant-loop-at l = record {
  so : text_order l.fn.text l.fn.other ≡ text_order (drop l.at l.fn.text) (drop l.at l.fn.other);
  within : l.at ≤ length l.fn.text;
}

abbrev pub decreases-loop-at : goal.decreases-loop-at
decreases-loop-at l = length l.fn.text - l.at
