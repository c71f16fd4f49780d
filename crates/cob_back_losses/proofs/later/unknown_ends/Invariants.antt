use Rattle.std.proofs.Common.{◌≡◌, ℕ, get_or, length}
use Rattle.cob_back_losses.proofs.later.unknown_ends.Given as goal

abbrev pub invariant-loop : goal.invariant-loop
invariant-loop l = record {
  none : (at : ℕ) → get_or l.ends.items at 0 ≡ 0;
  count : length l.ends.items ≡ l.counter;
}
