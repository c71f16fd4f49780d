use Rattle.std.proofs.Common.{◌≡◌, length}
use Rattle.cob_move_steps.specs.Texts.{AreTextsFor}
use Rattle.cob_move_steps.proofs.texts.texts_for.Given as goal

abbrev pub invariant-loop-zeros : goal.invariant-loop-zeros
invariant-loop-zeros l = record {
  count : length l.texts.items ≡ l.zeros;
  texts : AreTextsFor l.item 0 l.texts.items;
}
