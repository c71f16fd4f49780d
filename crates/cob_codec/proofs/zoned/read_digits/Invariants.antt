use Rattle.std.proofs.Common.{◌≡◌, take}
use Rattle.cob_decimal.specs.Decimal.{IsDigits}
use Rattle.cob_codec.specs.Zoned.{digit_bytes}
use Rattle.cob_codec.proofs.zoned.read_digits.Given as goal

abbrev pub invariant-loop-byte : goal.invariant-loop-byte
invariant-loop-byte l = record {
  so_far : take l.byte-index l.bytes ≡ digit_bytes l.digits;
  valid : IsDigits l.digits;
}
