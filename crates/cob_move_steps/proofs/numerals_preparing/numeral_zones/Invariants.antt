use Rattle.std.proofs.Common.{◌≡◌, ℕ, ◌<◌, length, get_or}
use Rattle.cob_move_steps.specs.Numerals.{numeral_zone}
use Rattle.cob_move_steps.proofs.numerals_preparing.numeral_zones.Given as goal

abbrev pub invariant-loop-at : goal.invariant-loop-at
invariant-loop-at l = record {
  long : length l.zones ≡ 16;
  each : (i : ℕ) → i < l.at → get_or l.zones i 0 ≡ numeral_zone l.count i;
}
