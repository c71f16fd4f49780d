use Rattle.std.proofs.Common.{◌≡◌, length}
use Rattle.cob_move_steps.specs.Texts.{AreWideTextsFor}
use Rattle.cob_move_steps.proofs.wide_texts.wide_texts_for.Given as goal

abbrev pub invariant-loop-zeros : goal.invariant-loop-zeros
invariant-loop-zeros l = record {
  count : length l.texts.items ≡ l.zeros;
  texts : AreWideTextsFor l.item 0 l.texts.items;
}
