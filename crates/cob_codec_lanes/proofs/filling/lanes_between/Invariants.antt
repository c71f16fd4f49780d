use Rattle.std.proofs.Common.{◌≡◌, ℕ, ◌<◌, length, get_or}
use Rattle.cob_codec_lanes.specs.Windows.{lane_between}
use Rattle.cob_codec_lanes.proofs.filling.lanes_between.Given as goal

abbrev pub invariant-loop-lane : goal.invariant-loop-lane
invariant-loop-lane l = record {
  long : length l.lanes ≡ 16;
  filled : (i : ℕ) → i < l.lane → get_or l.lanes i 0 ≡ lane_between l.from l.to l.inside l.outside i;
}
