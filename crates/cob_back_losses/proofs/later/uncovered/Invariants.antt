use Rattle.std.proofs.Common.{◌≡◌, ℕ, false, get_or, length}
use Rattle.cob_back_losses.proofs.later.uncovered.Given as goal

abbrev pub invariant-loop : goal.invariant-loop
invariant-loop l = record {
  none : (byte : ℕ) → get_or l.marks.items byte false ≡ false;
  count : length l.marks.items ≡ l.counter;
}
