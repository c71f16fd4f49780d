use Rattle.std.proofs.Common.{◌≡◌, ℕ, ◌<◌, true, length, get_or}
use Rattle.cob_codec_lanes.specs.Lanes.{is_pick}
use Rattle.cob_codec_lanes.specs.Windows.{digit_pick, half_of_byte}
use Rattle.cob_codec_lanes.proofs.picks.digit_picks.Given as goal

abbrev pub invariant-loop-byte : goal.invariant-loop-byte
invariant-loop-byte l = record {
  long : length l.lanes ≡ 16;
  each : (i : ℕ) → i < l.byte → get_or l.lanes i 0 ≡ digit_pick l.by.start l.by.apart l.by.count (half_of_byte l.high i);
  valid : (i : ℕ) → i < 16 → is_pick (get_or l.lanes i 0) ≡ true;
}
