use Rattle.std.proofs.Common.{◌≡◌, ◌<◌, ◌^◌, take}
use Rattle.cob_decimal.specs.Decimal.{number_of}
use Rattle.cob_codec.proofs.binary.magnitude_of.Given as goal

abbrev pub invariant-loop-digit : goal.invariant-loop-digit
invariant-loop-digit l = record {
  value : l.magnitude ≡ number_of (take l.digit-index l.digits);
  small : l.magnitude < 10 ^ l.digit-index;
}
