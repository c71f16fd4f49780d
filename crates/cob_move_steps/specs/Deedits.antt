-- Single moves of numbers of edited items that are made ready: the digits are taken out, written again and compared.
use Rattle.std.specs.Prelude.{◌≡◌, ◌⊎◌, ◌≤◌, ◌-ℤ◌, ℕ, Bool, List, length, Option}
use Rattle.cob_picture.specs.Counts.{scale}
use Rattle.cob_codec.specs.declared.reading.Reading.{Reading}
use Rattle.cob_copybook_tree.specs.declared.node.Item.{Item}
use Rattle.cob_copybook_tree.specs.Lengths.{item_size}
use Rattle.cob_edit.specs.Pictured.{places}
use Rattle.cob_codec_lanes.specs.declared.text.KeptDigits.{KeptDigits}
use Rattle.cob_codec_lanes.specs.Texts.{ArePlacesAt, IsKeeperOf}
use Rattle.cob_codec_lanes.specs.Windows.{last_bytes}
use Rattle.cob_codec_lanes.specs.Words.{IsNumberRead}
use Rattle.cob_move_steps.specs.Edits.{IsTextWriterFor}
use Rattle.cob_move_steps.specs.Ends.{GivesSigned, IsNumberWriterFor, IsShortNumber, item_digits}
use Rattle.cob_move_steps.specs.Running.{ReceivedAtEnd}
use Rattle.cob_move_steps.specs.Texts.{AreWideTextsFor, digit_bytes_from, IsWideEditedItem}
use Rattle.cob_move_steps.specs.declared.number_ends.ReceiverWriter.{ReceiverWriter}
use Rattle.cob_move_steps.specs.declared.number_ends.ReceiverWriter.TheVariants as writer
use Rattle.cob_move_steps.specs.declared.text_reader.TextReader.{TextReader}
use Rattle.cob_move_steps.specs.declared.text_step.TextStep.{TextStep}

-- The reader reads the numbers of an edited item, and keeps the digits that another item has places for.
pub record IsTextReaderFor (from to : Item) (r : TextReader) : Type 0 where
  pub edited : IsWideEditedItem from
  pub size : r.size ≡ item_size from
  pub count : r.digits ≡ item_digits from
  pub places : ArePlacesAt (digit_bytes_from 0 (places from.picture.positions)) r.places
  pub kept : IsKeeperOf (item_digits from) (item_digits to) (scale to.picture.positions -ℤ scale from.picture.positions) r.kept
  pub texts : AreWideTextsFor from 0 r.texts.items

-- of the digits of an item those are kept that another item has places for
abbrev pub IsKeeperFor : (from to : Item) → KeptDigits → Type 0
IsKeeperFor from to kept = IsKeeperOf (item_digits from) (item_digits to) (scale to.picture.positions -ℤ scale from.picture.positions) kept

-- What was read of the edited item at the end of bytes, for each two items whose reader this is.
abbrev pub IsTextRead : TextReader → List ℕ → (is_number minus : Bool) → List ℕ → Type 0
IsTextRead r bytes is_number minus kept =
    (from to : Item) (reading : Reading) → IsTextReaderFor from to r → item_size from ≤ length bytes
    → IsNumberRead (GivesSigned reading from (last_bytes (item_size from) bytes)) (item_digits to) (scale to.picture.positions -ℤ scale from.picture.positions) is_number minus kept

-- The item is a short number, or edits one.
abbrev pub ReceivesNumber : Item → Type 0
ReceivesNumber i = IsShortNumber i ⊎ IsWideEditedItem i

-- The writer writes what an item receives of a number.
abbrev pub IsReceiverWriterFor : Item → ReceiverWriter → Type 0
IsReceiverWriterFor to (writer.Number w) = IsNumberWriterFor to w
IsReceiverWriterFor to (writer.Text w) = IsTextWriterFor to w

-- The step moves the number of the first item, which is edited, to the second.
pub record IsTextStep (from to : Item) (step : TextStep) : Type 0 where
  pub reader : IsTextReaderFor from to step.reader
  pub writer : IsReceiverWriterFor to step.writer

-- What a receiver of n bytes holds after the move of the item that ends these bytes, or none: for each two items whose step this is, where the
-- bytes have the sender at their end and n is the receiver's size.
abbrev pub IsTextCarriedOut : TextStep → List ℕ → ℕ → Option (List ℕ) → Type 0
IsTextCarriedOut step bytes n outcome =
    (from to : Item) → IsTextStep from to step → item_size from ≤ length bytes → n ≡ item_size to → ReceivedAtEnd from to bytes n outcome
