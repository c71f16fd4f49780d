use Rattle.std.proofs.Common.{◌≡◌, length}
use Rattle.cob_move_steps.specs.LongReads.{ArePaddedBehind}
use Rattle.cob_move_steps.specs.LongTexts.{AreLongTextsFor}
use Rattle.cob_move_steps.proofs.long_texts.long_texts_for.Given as goal

abbrev pub invariant-loop-zeros : goal.invariant-loop-zeros
invariant-loop-zeros l = record {
  count : length l.texts.items ≡ l.zeros;
  texts : AreLongTextsFor l.item 0 l.texts.items;
  padded : ArePaddedBehind l.item l.texts.items;
}
