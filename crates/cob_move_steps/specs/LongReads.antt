-- Edited items of any number of digits that are read: the digits are taken out into two vectors, written again and compared.
use Rattle.std.specs.Prelude.{◌≡◌, ◌≤◌, ◌-◌, ℕ, pos, Bool, replicate, List, length, take, drop}
use Rattle.cob_codec.specs.declared.reading.Reading.{Reading}
use Rattle.cob_copybook_tree.specs.declared.node.Item.{Item}
use Rattle.cob_copybook_tree.specs.Lengths.{item_size}
use Rattle.cob_edit.specs.Pictured.{places}
use Rattle.cob_codec_lanes.specs.LongPlaces.{AreLongPlacesAt}
use Rattle.cob_codec_lanes.specs.LongTexts.{AreLonglyShown}
use Rattle.cob_codec_lanes.specs.Texts.{IsKeeperOf}
use Rattle.cob_codec_lanes.specs.Wide.{IsWideRead}
use Rattle.cob_codec_lanes.specs.Windows.{last_bytes}
use Rattle.cob_codec_lanes.specs.declared.long_text.LongText.{LongText}
use Rattle.cob_move_steps.specs.Ends.{GivesSigned, item_digits}
use Rattle.cob_move_steps.specs.LongDigits.{last_count}
use Rattle.cob_move_steps.specs.LongTexts.{AreLongTextsFor, IsLongEditedItem}
use Rattle.cob_move_steps.specs.Texts.{HoldInTurn, digit_bytes_from}
use Rattle.cob_move_steps.specs.declared.long_text_reader.LongTextReader.{LongTextReader}
use Rattle.cob_move_steps.specs.declared.long_text_reader.PairPlaces.{PairPlaces}

-- What is made so of digits and a sign are zeros behind the bytes of the item.
abbrev pub IsPaddedBehind : Item → LongText → Type 0
IsPaddedBehind i t =
    (negative : Bool) (front back bytes : List ℕ) → AreLonglyShown t negative front back bytes → drop (item_size i) bytes ≡ replicate (48 - item_size i) 0

-- So are all these.
abbrev pub ArePaddedBehind : Item → List LongText → Type 0
ArePaddedBehind i texts = HoldInTurn (λ zeros. IsPaddedBehind i) 0 texts

-- the bytes of the digits of an item, in order
abbrev pub bytes_of_digits : Item → List ℕ
bytes_of_digits i = digit_bytes_from 0 (places i.picture.positions)

-- Of so many digits at these bytes those in front of the last sixteen are looked for where they stand, and these too.
pub record ArePairPlacesAt (count : ℕ) (at : List ℕ) (places : PairPlaces) : Type 0 where
  pub front : AreLongPlacesAt (take (count - 16) at) places.front
  pub back : AreLongPlacesAt (drop (count - 16) at) places.back

-- The reader reads the numbers of an edited item of any number of digits.
pub record IsLongTextReaderFor (from : Item) (r : LongTextReader) : Type 0 where
  pub edited : IsLongEditedItem from
  pub size : r.size ≡ item_size from
  pub count : r.digits ≡ item_digits from
  pub places : ArePairPlacesAt (item_digits from) (bytes_of_digits from) r.places
  pub front : IsKeeperOf (item_digits from - 16) 16 (pos 0) r.front
  pub back : IsKeeperOf (last_count (item_digits from)) 16 (pos 0) r.back
  pub texts : AreLongTextsFor from 0 r.texts.items
  pub padded : ArePaddedBehind from r.texts.items

-- What was read of the edited item at the end of bytes, for each item whose reader this is.
abbrev pub IsLongTextRead : LongTextReader → List ℕ → (is_number minus : Bool) → (front back : List ℕ) → Type 0
IsLongTextRead r bytes is_number minus front back =
    (from : Item) (reading : Reading) → IsLongTextReaderFor from r → item_size from ≤ length bytes
    → IsWideRead (GivesSigned reading from (last_bytes (item_size from) bytes)) is_number minus front back
