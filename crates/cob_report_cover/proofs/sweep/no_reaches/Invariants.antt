use Rattle.std.proofs.Common.{◌≡◌, ℕ, false, nat_lt, get_or, length}
use Rattle.cob_report_cover.proofs.sweep.no_reaches.Given as goal

abbrev pub invariant-loop : goal.invariant-loop
invariant-loop l = record {
  none : (o n : ℕ) → nat_lt n (get_or l.reaches.items o 0) ≡ false;
  long : length l.reaches.items ≡ l.counter;
}
