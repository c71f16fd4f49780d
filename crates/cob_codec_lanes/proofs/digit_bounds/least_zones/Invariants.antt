use Rattle.std.proofs.Common.{◌≡◌, ℕ, ◌+◌, ◌<◌, length, get_or}
use Rattle.cob_codec_lanes.specs.DigitLanes.{least_zone}
use Rattle.cob_codec_lanes.proofs.digit_bounds.least_zones.Given as goal

abbrev pub invariant-loop-lane : goal.invariant-loop-lane
invariant-loop-lane l = record {
  long : length l.zones ≡ 16;
  filled : (i : ℕ) → i < l.lane → get_or l.zones i 0 ≡ least_zone l.digits.first l.digits.count l.free (l.start + i);
}
