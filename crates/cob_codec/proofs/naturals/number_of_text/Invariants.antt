use Rattle.std.proofs.Common.{◌≡◌, ℕ, List, take}
use Rattle.cob_codec.specs.Zoned.{digit_bytes}
use Rattle.cob_decimal.specs.Decimal.{IsDigits, number_of}
use Rattle.cob_codec.proofs.naturals.number_of_text.Given as goal

abbrev pub invariant-loop-byte : goal.invariant-loop-byte
invariant-loop-byte l = record {
  so_far : (digits : List ℕ) × IsDigits digits × (take l.byte-index l.bytes ≡ digit_bytes digits) × (l.value ≡ number_of digits);
}
