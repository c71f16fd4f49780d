use Rattle.std.proofs.Common.{◌≡◌, ◌+◌, ◌++◌, take, drop, length, count_by}
use Rattle.cob_decimal.specs.Decimal.{IsDigits}
use Rattle.cob_edit.specs.Places.{is_digit, has_byte}
use Rattle.cob_edit.specs.Editing.{extract}
use Rattle.cob_edit.proofs.reading.digits_in.Given as goal

abbrev pub invariant-loop-place : goal.invariant-loop-place
invariant-loop-place l = record {
  room : l.read + count_by has_byte (drop l.place-index l.places) ≡ length l.bytes;
  count : length l.digits ≡ count_by is_digit (take l.place-index l.places);
  valid : IsDigits l.digits;
  text : l.digits ++ extract (drop l.place-index l.places) (drop l.read l.bytes) ≡ extract l.places l.bytes;
}
