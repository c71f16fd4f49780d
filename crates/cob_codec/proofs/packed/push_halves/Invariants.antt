use Rattle.std.proofs.Common.{◌≡◌, ◌++◌, take}
use Rattle.cob_decimal.specs.Decimal.{IsDigits}
use Rattle.cob_codec.specs.Packed.{halves}
use Rattle.cob_codec.proofs.packed.push_halves.Given as goal

abbrev pub invariant-loop-byte : goal.invariant-loop-byte
invariant-loop-byte l = record {
  so_far : l.digits ≡ l.initial.digits ++ halves (take l.byte-index l.bytes);
  valid : IsDigits (halves (take l.byte-index l.bytes));
}
