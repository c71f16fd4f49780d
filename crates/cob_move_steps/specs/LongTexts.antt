-- Edited items of any number of digits whose texts are made of digits in two vectors.
use Rattle.std.specs.Prelude.{◌≡◌, ℕ, ◌+◌, ◌-◌, ◌<◌, ◌≤◌, ◌==◌, ◌&&◌, nat_le, nat_lt, if◌then◌else◌, Bool, true, false, List, length, take, slice_index}
use Rattle.std.specs.List.{prefix_len}
use Rattle.cob_picture.specs.Counts.{scale}
use Rattle.cob_copybook_tree.specs.declared.node.Item.{Item}
use Rattle.cob_copybook_tree.specs.Lengths.{item_size}
use Rattle.cob_edit.specs.declared.cell.TextCell.{TextCell}
use Rattle.cob_edit.specs.declared.cell.TextCell.TheVariants.{Same, Signed, Taken}
use Rattle.cob_edit.specs.Pictured.{IsEdited}
use Rattle.cob_codec_lanes.specs.Lanes.{AreTens}
use Rattle.cob_codec_lanes.specs.LongTexts.{AreLonglyShown}
use Rattle.cob_codec_lanes.specs.declared.long_text.LongText.{LongText}
use Rattle.cob_codec_lanes.specs.declared.long_text.PairText.{PairText}
use Rattle.cob_move_steps.specs.Ends.{item_digits}
use Rattle.cob_move_steps.specs.LongDigits.{long_digits}
use Rattle.cob_move_steps.specs.Texts.{HoldInTurn, IsPlainlyEdited, added_to, cell_in}
use Rattle.cob_move_steps.specs.declared.long_text_writer.LongTextWriter.{LongTextWriter}

-- The item edits numbers in at most forty-eight bytes.
pub record IsLongEditedItem (i : Item) : Type 0 where
  pub plainly : IsPlainlyEdited i
  pub few : item_digits i ≤ 31
  pub fits : item_size i ≤ 48

-- The lane of the digit that a cell shows, of so many, among those in front of the last sixteen, or none.
abbrev pub front_lane : (count : ℕ) → TextCell → ℕ
front_lane count (Same byte) = 128
front_lane count (Signed plus minus) = 128
front_lane count (Taken number) = if nat_lt number (count - 16) then number else 128

-- Its lane among the last sixteen, or none.
abbrev pub back_lane : (count : ℕ) → TextCell → ℕ
back_lane count (Same byte) = 128
back_lane count (Signed plus minus) = 128
back_lane count (Taken number) = if nat_le (count - 16) number && nat_lt number count then number - (count - 16) else 128

-- Sixteen bytes of a text of so many digits, from this one on, are made as the cells of the row say; behind the row they are 0.
pub record IsPairTextOf (count : ℕ) (row : List TextCell) (start : ℕ) (t : PairText) : Type 0 where
  pub front : (i : ℕ) → i < 16 → slice_index t.front.lanes i ≡ front_lane count (cell_in row (start + i))
  pub back : (i : ℕ) → i < 16 → slice_index t.back.lanes i ≡ back_lane count (cell_in row (start + i))
  pub plus : (i : ℕ) → i < 16 → slice_index t.plus i ≡ added_to false (cell_in row (start + i))
  pub minus : (i : ℕ) → i < 16 → slice_index t.minus i ≡ added_to true (cell_in row (start + i))
  pub small : (i : ℕ) (negative : Bool) → i < 16 → added_to negative (cell_in row (start + i)) < 256

-- So are forty-eight bytes.
pub record IsLongTextOf (count : ℕ) (row : List TextCell) (t : LongText) : Type 0 where
  pub first : IsPairTextOf count row 0 t.first
  pub second : IsPairTextOf count row 16 t.second
  pub third : IsPairTextOf count row 32 t.third

-- What is made so of digits and a sign is the item's text of each number, of as many digits as it shows and at its scale, that has so many
-- zeros in front.
abbrev pub IsLongTextFor : Item → (zeros : ℕ) → LongText → Type 0
IsLongTextFor to zeros t =
    (negative : Bool) (front back bytes : List ℕ) → length front ≡ 16 → length back ≡ 16 → AreTens front → AreTens back
    → prefix_len (λ d. d == 0) (long_digits (item_digits to) front back) ≡ zeros
    → AreLonglyShown t negative front back bytes
    → IsEdited to.picture to.blank negative (long_digits (item_digits to) front back) (scale to.picture.positions) (take (item_size to) bytes)

-- These texts are those of numbers with so many zeros in front, with one more, and so on.
abbrev pub AreLongTextsFor : Item → (first : ℕ) → List LongText → Type 0
AreLongTextsFor to first texts = HoldInTurn (IsLongTextFor to) first texts

-- The writer writes the texts of an item of at most forty-eight bytes.
pub record IsLongTextWriterFor (to : Item) (w : LongTextWriter) : Type 0 where
  pub edited : IsLongEditedItem to
  pub count : w.digits ≡ item_digits to
  pub texts : AreLongTextsFor to 0 w.texts.items

-- What was written into n bytes, for each item whose writer this is: the text of the number of its digits.
abbrev pub IsLongTextWritten : LongTextWriter → (front back : List ℕ) → Bool → ℕ → List ℕ → Type 0
IsLongTextWritten w front back minus n bytes =
    (to : Item) → IsLongTextWriterFor to w → n ≡ item_size to → AreTens front → AreTens back
    → IsEdited to.picture to.blank minus (long_digits (item_digits to) front back) (scale to.picture.positions) bytes
