use Rattle.std.proofs.Common.{◌≡◌, ℕ, ◌<◌, ◌≤◌, true, length, get_or}
use Rattle.cob_codec_lanes.specs.Lanes.{is_pick}
use Rattle.cob_codec_lanes.specs.Texts.{place_from}
use Rattle.cob_codec_lanes.proofs.text.places_from.Given as goal

abbrev pub invariant-loop-index : goal.invariant-loop-index
invariant-loop-index l = record {
  long : length l.lanes ≡ 16;
  each : (k : ℕ) → k < l.index → get_or l.lanes k 0 ≡ place_from l.start (get_or l.bytes k 0);
  rest : (k : ℕ) → l.index ≤ k → k < 16 → get_or l.lanes k 0 ≡ 128;
  valid : (k : ℕ) → k < 16 → is_pick (get_or l.lanes k 0) ≡ true;
}
