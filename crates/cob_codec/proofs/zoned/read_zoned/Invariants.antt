use Rattle.std.proofs.Common.{◌≡◌, ◌≢◌, ◌<◌, ℕ, take, map, get_or}
use Rattle.cob_decimal.specs.Decimal.{IsDigits}
use Rattle.cob_codec.specs.Zoned.{zone_of, low_digit}
use Rattle.cob_codec.proofs.zoned.read_zoned.Given as goal

abbrev pub invariant-loop-at : goal.invariant-loop-at
invariant-loop-at l = record {
  so_far : l.digits ≡ map low_digit (take l.at l.bytes);
  valid : IsDigits l.digits;
  zones : (k : ℕ) → k < l.at → k ≢ l.place → zone_of (get_or l.bytes k 0) ≡ 15;
}
