use Rattle.std.proofs.Common.{◌≡◌, ◌-◌, drop, length, map, reverse}
use Rattle.cob_back_losses.specs.Moved.{TellsEach}
use Rattle.cob_back_losses.specs.Seen.{AreEnds, MarkCoveredBytes, seen_single}
use Rattle.cob_back_losses.proofs.paragraph.lost_from_end.Given as goal

abbrev pub invariant-loop-step : goal.invariant-loop-step
invariant-loop-step l = record {
  told : TellsEach l.output (drop (l.count - l.step) (map seen_single l.singles)) (reverse l.all.items);
  marks : MarkCoveredBytes l.output (drop (l.count - l.step) (map seen_single l.singles)) l.covered.items;
  known : AreEnds l.covered.items l.ends.items;
  room : length l.ends.items ≡ length l.covered.items;
}
