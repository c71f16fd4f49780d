use Rattle.std.proofs.Common.{◌≡◌, ◌≤◌, take}
use Rattle.cob_decimal.specs.Decimal.{number_of}
use Rattle.cob_layout_places.proofs.naturals.whole.Given as goal

abbrev pub invariant-loop-digit : goal.invariant-loop-digit
invariant-loop-digit l = record {
  value : l.value ≡ number_of (take l.digit-index l.digits);
  small : l.value ≤ l.most;
}
