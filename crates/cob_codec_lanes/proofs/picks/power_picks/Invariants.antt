use Rattle.std.proofs.Common.{◌≡◌, ℕ, ◌-◌, ◌<◌, ◌≤◌, pos, ◌-ℤ◌, true, length, get_or}
use Rattle.cob_codec_lanes.specs.Lanes.{is_pick}
use Rattle.cob_codec_lanes.specs.Windows.{power_pick}
use Rattle.cob_codec_lanes.proofs.picks.power_picks.Given as goal

abbrev pub invariant-loop-lane : goal.invariant-loop-lane
invariant-loop-lane l = record {
  long : length l.lanes ≡ 16;
  each : (j : ℕ) → j < l.lane → get_or l.lanes j 0 ≡ power_pick l.high l.by.start l.by.apart l.by.count (pos (l.wanted.digits - 1 - j) -ℤ l.wanted.shift);
  rest : (j : ℕ) → l.lane ≤ j → j < 16 → get_or l.lanes j 0 ≡ 128;
  valid : (j : ℕ) → j < 16 → is_pick (get_or l.lanes j 0) ≡ true;
}
