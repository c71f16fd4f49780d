use Rattle.std.proofs.Common.{◌≡◌, ℕ, ◌+◌, ◌/◌, ◌%◌, ◌<◌, ◌≤◌, ◌↔◌, length, get_or}
use Rattle.cob_codec_lanes.proofs.bounds.each_up_to.Given as goal

abbrev pub invariant-loop-lane : goal.invariant-loop-lane
invariant-loop-lane l = record {
  long : length l.added ≡ 16;
  filled : (i x : ℕ) → i < l.lane → x < 16 → ((x + get_or l.added i 0) % 256 / 128 ≡ 0) ↔ (x ≤ get_or l.most i 0);
}
