use Rattle.std.proofs.Common.{◌≡◌, ℕ, ◌<◌, ◌≤◌, take, count_by, IsTrue}
use Rattle.cob_edit.specs.Places.{is_digit}
use Rattle.cob_edit.specs.Editing.{place_at, digit_of}
use Rattle.cob_edit.proofs.region.cut_of.Given as goal

abbrev pub invariant-loop-at : goal.invariant-loop-at
invariant-loop-at l = record {
  next : l.next ≡ count_by is_digit (take l.at l.places);
  zeros : (j : ℕ) → j < l.at → l.region.start ≤ j → IsTrue (is_digit (place_at l.places j)) → digit_of l.places l.digits j ≡ 0;
}
