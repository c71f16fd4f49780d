use Rattle.std.proofs.Common.{◌≡◌, take}
use Rattle.cob_codec.specs.Zoned.{digit_bytes}
use Rattle.cob_codec.proofs.zoned.put_digits.Given as goal

abbrev pub invariant-loop-at : goal.invariant-loop-at
invariant-loop-at l = take l.at l.bytes ≡ take l.at (digit_bytes l.digits)
