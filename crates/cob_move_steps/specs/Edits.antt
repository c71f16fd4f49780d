-- Single moves of numbers to edited items that are made ready.
use Rattle.std.specs.Prelude.{◌≡◌, ◌≤◌, ℕ, Bool, List, take}
use Rattle.cob_picture.specs.Counts.{digits, scale}
use Rattle.cob_copybook_tree.specs.declared.node.Item.{Item}
use Rattle.cob_copybook_tree.specs.Lengths.{item_size}
use Rattle.cob_edit.specs.Pictured.{IsEdited}
use Rattle.cob_move_steps.specs.Ends.{IsNumberReaderFor}
use Rattle.cob_move_steps.specs.Texts.{AreLed, AreTextsFor, AreWideTextsFor, IsPlainlyEdited}
use Rattle.cob_move_steps.specs.declared.edit_step.EditStep.{EditStep}
use Rattle.cob_move_steps.specs.declared.text_writer.TextWriter.{TextWriter}
use Rattle.cob_move_steps.specs.declared.wide_edit_step.WideEditStep.{WideEditStep}

-- The step moves the number of the first item to the second, which is edited.
pub record IsEditStep (from to : Item) (step : EditStep) : Type 0 where
  pub receives : IsPlainlyEdited to
  pub few : digits to.picture.positions ≤ 16
  pub fits : item_size to ≤ 16
  pub reader : IsNumberReaderFor from to step.reader
  pub count : step.digits ≡ digits to.picture.positions
  pub texts : AreTextsFor to 0 step.texts.items

-- The writer writes the texts of an item of at most thirty-two bytes.
pub record IsTextWriterFor (to : Item) (w : TextWriter) : Type 0 where
  pub receives : IsPlainlyEdited to
  pub few : digits to.picture.positions ≤ 16
  pub fits : item_size to ≤ 32
  pub count : w.digits ≡ digits to.picture.positions
  pub texts : AreWideTextsFor to 0 w.texts.items

-- What was written into n bytes, for each item whose writer this is: the text of the number of its first digits.
abbrev pub IsTextWritten : TextWriter → List ℕ → Bool → ℕ → List ℕ → Type 0
IsTextWritten w lanes minus n bytes =
    (to : Item) → IsTextWriterFor to w → n ≡ item_size to → AreLed (digits to.picture.positions) lanes
    → IsEdited to.picture to.blank minus (take (digits to.picture.positions) lanes) (scale to.picture.positions) bytes

-- The step moves the number of the first item to the second, which is edited, of at most thirty-two bytes.
pub record IsWideEditStep (from to : Item) (step : WideEditStep) : Type 0 where
  pub reader : IsNumberReaderFor from to step.reader
  pub writer : IsTextWriterFor to step.writer
