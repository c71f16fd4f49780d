use Rattle.std.proofs.Common.{◌≡◌, ℕ, ◌+◌, ◌/◌, ◌%◌, ◌<◌, ◌≤◌, ◌↔◌, length, get_or}
use Rattle.cob_codec_lanes.proofs.bounds.each_from.Given as goal

abbrev pub invariant-loop-lane : goal.invariant-loop-lane
invariant-loop-lane l = record {
  long : length l.added ≡ 16;
  filled : (i x : ℕ) → i < l.lane → x < 16 → ((x + get_or l.added i 0) % 256 / 128 ≡ 0) ↔ (get_or l.least i 0 ≤ x);
}
