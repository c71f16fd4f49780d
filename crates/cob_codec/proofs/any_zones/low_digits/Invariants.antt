use Rattle.std.proofs.Common.{◌≡◌, map, take}
use Rattle.cob_decimal.specs.Decimal.{IsDigits}
use Rattle.cob_codec.specs.Zoned.{low_digit}
use Rattle.cob_codec.proofs.any_zones.low_digits.Given as goal

abbrev pub invariant-loop-byte : goal.invariant-loop-byte
invariant-loop-byte l = record {
  so_far : l.digits ≡ map low_digit (take l.byte-index l.bytes);
  valid : IsDigits l.digits;
}
