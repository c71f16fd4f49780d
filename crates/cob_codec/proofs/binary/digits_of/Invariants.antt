use Rattle.std.proofs.Common.{◌≡◌, ◌+◌, ◌-◌, ◌*◌, ◌^◌, drop, length}
use Rattle.cob_decimal.specs.Decimal.{IsDigits, number_of}
use Rattle.cob_codec.proofs.binary.digits_of.Given as goal

abbrev pub invariant-loop-place : goal.invariant-loop-place
invariant-loop-place l = record {
  long : length l.places ≡ 20;
  value : l.number ≡ l.rest * 10 ^ l.place + number_of (drop (20 - l.place) l.places);
  valid : IsDigits (drop (20 - l.place) l.places);
}
