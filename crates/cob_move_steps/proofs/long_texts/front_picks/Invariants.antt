use Rattle.std.proofs.Common.{◌≡◌, ℕ, ◌+◌, ◌<◌, true, length, get_or}
use Rattle.cob_codec_lanes.specs.Lanes.{is_pick}
use Rattle.cob_move_steps.specs.LongTexts.{front_lane}
use Rattle.cob_move_steps.specs.Texts.{cell_in}
use Rattle.cob_move_steps.proofs.long_texts.front_picks.Given as goal

abbrev pub invariant-loop-at : goal.invariant-loop-at
invariant-loop-at l = record {
  long : length l.lanes ≡ 16;
  each : (i : ℕ) → i < l.at → get_or l.lanes i 0 ≡ front_lane l.count (cell_in l.row (l.start + i));
  valid : (i : ℕ) → i < 16 → is_pick (get_or l.lanes i 0) ≡ true;
}
