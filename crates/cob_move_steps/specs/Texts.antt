-- Edited items whose texts are made of digits in lanes.
use Rattle.std.specs.Prelude.{◌≡◌, ℕ, ◌+◌, ◌-◌, ◌<◌, ◌≤◌, ◌==◌, Bool, true, false, nat_lt, if◌then◌else◌, replicate, List, [], ◌∷◌, ◌++◌, length, take, drop, slice_index, slice_index_or}
use Rattle.std.specs.List.{prefix_len}
use Rattle.cob_cp037.specs.Named.{zero_byte}
use Rattle.cob_picture.specs.Counts.{digits, scale, size}
use Rattle.cob_picture.specs.Positions.{shows_number}
use Rattle.cob_copybook_tree.specs.declared.node.Item.{Item}
use Rattle.cob_copybook_tree.specs.Resolving.{is_number}
use Rattle.cob_copybook_tree.specs.Lengths.{item_size}
use Rattle.cob_edit.specs.declared.cell.TextCell.{TextCell}
use Rattle.cob_edit.specs.declared.cell.TextCell.TheVariants.{Same, Signed, Taken}
use Rattle.cob_edit.specs.declared.place.EditedPlace.{EditedPlace}
use Rattle.cob_edit.specs.Pictured.{IsEdited}
use Rattle.cob_edit.specs.Places.{is_digit, has_byte}
use Rattle.cob_codec_lanes.specs.Lanes.{AreTens}
use Rattle.cob_codec_lanes.specs.Texts.{AreShown, AreWidelyShown}
use Rattle.cob_codec_lanes.specs.declared.text.LaneText.{LaneText}
use Rattle.cob_codec_lanes.specs.declared.text.WideText.{WideText}

-- ---- items

-- The item is edited, and has a byte for each place of its picture that has one.
pub record IsPlainlyEdited (i : Item) : Type 0 where
  pub shows : shows_number i.picture.category ≡ true
  pub edited : is_number i ≡ false
  pub bytes : item_size i ≡ size i.picture.positions

-- The item edits numbers of at most sixteen digits in at most sixteen bytes.
pub record IsEditedItem (i : Item) : Type 0 where
  pub plainly : IsPlainlyEdited i
  pub few : digits i.picture.positions ≤ 16
  pub fits : item_size i ≤ 16

-- The item edits numbers of at most sixteen digits in at most thirty-two bytes.
pub record IsWideEditedItem (i : Item) : Type 0 where
  pub plainly : IsPlainlyEdited i
  pub few : digits i.picture.positions ≤ 16
  pub fits : item_size i ≤ 32

-- The byte of each place of a digit, in order, where the first place has the byte of this number.
abbrev pub digit_bytes_from : ℕ → List EditedPlace → List ℕ
digit_bytes_from at [] = []
digit_bytes_from at (p ∷ ps) = (if is_digit p then at ∷ [] else []) ++ digit_bytes_from (if has_byte p then at + 1 else at) ps

-- ---- texts

-- the cell with this number of a row; behind the row stands the byte 0
abbrev pub cell_in : List TextCell → ℕ → TextCell
cell_in row i = slice_index_or row i (Same 0)

-- The lane of the digit that a cell shows, or none: sixteen lanes hold no later digit.
abbrev pub shown_lane : TextCell → ℕ
shown_lane (Same byte) = 128
shown_lane (Signed plus minus) = 128
shown_lane (Taken number) = if nat_lt number 16 then number else 128

-- What is added to that digit in the text of a number that is negative or not.
abbrev pub added_to : Bool → TextCell → ℕ
added_to negative (Same byte) = byte
added_to negative (Signed plus minus) = if negative then minus else plus
added_to negative (Taken number) = zero_byte

-- Sixteen bytes of a text, from this one on, are made as the cells of the row say; behind the row they are 0.
pub record IsTextOf (row : List TextCell) (start : ℕ) (t : LaneText) : Type 0 where
  pub lanes : (i : ℕ) → i < 16 → slice_index t.picks.lanes i ≡ shown_lane (cell_in row (start + i))
  pub plus : (i : ℕ) → i < 16 → slice_index t.plus i ≡ added_to false (cell_in row (start + i))
  pub minus : (i : ℕ) → i < 16 → slice_index t.minus i ≡ added_to true (cell_in row (start + i))
  pub small : (i : ℕ) (negative : Bool) → i < 16 → added_to negative (cell_in row (start + i)) < 256

-- So are thirty-two bytes.
pub record IsWideTextOf (row : List TextCell) (t : WideText) : Type 0 where
  pub front : IsTextOf row 0 t.front
  pub back : IsTextOf row 16 t.back

-- Sixteen lanes that hold so many digits, and 0 behind them.
pub record AreLed (count : ℕ) (lanes : List ℕ) : Type 0 where
  pub long : length lanes ≡ 16
  pub tens : AreTens lanes
  pub rest : (j : ℕ) → count ≤ j → j < 16 → slice_index lanes j ≡ 0

-- What is made so of digits and a sign is the item's text of each number, of as many digits as it shows and at its scale, that has so many
-- zeros in front.
abbrev pub MakesTextsFor : Item → (zeros : ℕ) → (Bool → List ℕ → List ℕ → Type 0) → Type 0
MakesTextsFor to zeros is_made =
    (negative : Bool) (lanes bytes : List ℕ)
    → AreLed (digits to.picture.positions) lanes
    → prefix_len (λ d. d == 0) (take (digits to.picture.positions) lanes) ≡ zeros
    → is_made negative lanes bytes
    → IsEdited to.picture to.blank negative (take (digits to.picture.positions) lanes) (scale to.picture.positions) (take (item_size to) bytes)

-- The text makes those of an item of at most sixteen bytes.
abbrev pub IsTextFor : Item → (zeros : ℕ) → LaneText → Type 0
IsTextFor to zeros t = MakesTextsFor to zeros (AreShown t)

-- The text makes those of an item of at most thirty-two bytes, and zeros behind them.
pub record IsWideTextFor (to : Item) (zeros : ℕ) (t : WideText) : Type 0 where
  pub text : MakesTextsFor to zeros (AreWidelyShown t)
  pub rest : (negative : Bool) (lanes bytes : List ℕ) → AreWidelyShown t negative lanes bytes → drop (item_size to) bytes ≡ replicate (32 - item_size to) 0

-- What is first in a list is right for this number, what is next for the number behind it, and so on.
abbrev pub HoldInTurn : {A : Type 0} → (ℕ → A → Type 0) → (first : ℕ) → List A → Type 0
HoldInTurn IsRight first [] = Unit {0}
HoldInTurn IsRight first (x ∷ xs) = IsRight first x × HoldInTurn IsRight (first + 1) xs

-- These texts are those of numbers with so many zeros in front, with one more, and so on.
abbrev pub AreTextsFor : Item → (front : ℕ) → List LaneText → Type 0
AreTextsFor to front texts = HoldInTurn (IsTextFor to) front texts

-- The same of texts of at most thirty-two bytes.
abbrev pub AreWideTextsFor : Item → (front : ℕ) → List WideText → Type 0
AreWideTextsFor to front texts = HoldInTurn (IsWideTextFor to) front texts
