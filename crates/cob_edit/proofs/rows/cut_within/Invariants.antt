use Rattle.std.proofs.Common.{◌≡◌, ℕ, ◌+◌, ◌<◌, ◌≤◌, take, count_by, IsTrue}
use Rattle.cob_edit.specs.Places.{is_digit}
use Rattle.cob_edit.specs.Editing.{place_at}
use Rattle.cob_edit.proofs.rows.cut_within.Given as goal

abbrev pub invariant-loop-at : goal.invariant-loop-at
invariant-loop-at l = record {
  next : l.left + count_by is_digit (take l.at l.places) ≡ l.zeros;
  before : (j : ℕ) → j < l.at → l.region.start ≤ j → IsTrue (is_digit (place_at l.places j)) → count_by is_digit (take j l.places) < l.zeros;
}
