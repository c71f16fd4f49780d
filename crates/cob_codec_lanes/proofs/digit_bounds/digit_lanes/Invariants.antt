use Rattle.std.proofs.Common.{◌≡◌, ℕ, ◌<◌, true, length, get_or}
use Rattle.cob_codec_lanes.specs.Lanes.{is_pick}
use Rattle.cob_codec_lanes.specs.DigitLanes.{digit_lane}
use Rattle.cob_codec_lanes.proofs.digit_bounds.digit_lanes.Given as goal

abbrev pub invariant-loop-lane : goal.invariant-loop-lane
invariant-loop-lane l = record {
  long : length l.lanes ≡ 16;
  each : (i : ℕ) → i < l.lane → get_or l.lanes i 0 ≡ digit_lane l.count i;
  valid : (i : ℕ) → i < 16 → is_pick (get_or l.lanes i 0) ≡ true;
}
