use Rattle.std.proofs.Common.{◌≡◌, take}
use Rattle.cob_decimal.proofs.digits.Digits.from_slice.Given as goal

abbrev pub invariant-loop-digit : goal.invariant-loop-digit
invariant-loop-digit l = l.copy ≡ take l.digit-index l.digits
