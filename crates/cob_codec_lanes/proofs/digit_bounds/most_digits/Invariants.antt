use Rattle.std.proofs.Common.{◌≡◌, ℕ, ◌+◌, ◌<◌, length, get_or}
use Rattle.cob_codec_lanes.specs.DigitLanes.{most_digit}
use Rattle.cob_codec_lanes.proofs.digit_bounds.most_digits.Given as goal

abbrev pub invariant-loop-lane : goal.invariant-loop-lane
invariant-loop-lane l = record {
  long : length l.most ≡ 16;
  filled : (i : ℕ) → i < l.lane → get_or l.most i 0 ≡ most_digit l.count (l.start + i);
}
