-- Binary items as words and numbers in two vectors.
use Rattle.std.specs.Prelude.{◌≡◌, ℕ, ◌-◌, ◌*◌, ◌^◌, ◌<◌, ◌≤◌, ◌&&◌, Bool, true, IsTrue, List, ◌++◌, length, take}
use Rattle.cob_decimal.specs.Decimal.{number_of}
use Rattle.cob_codec.specs.Binary.{IsBinary, binary_form, binary_length}
use Rattle.cob_codec_lanes.specs.Lanes.{AreTens}
use Rattle.cob_codec_lanes.specs.Wide.{IsWideRead}
use Rattle.cob_codec_lanes.specs.Words.{width_bytes}
use Rattle.cob_codec_lanes.specs.Windows.{AreDigitPicks, last_bytes}
use Rattle.cob_codec_lanes.specs.declared.wide_word.WideWordReader.{WideWordReader}
use Rattle.cob_codec_lanes.specs.declared.wide_word.WideWordWriter.{WideWordWriter}

-- The reader reads binary items of so many digits.
pub record IsWideWordReaderOf (count : ℕ) (signed : Bool) (r : WideWordReader) : Type 0 where
  pub few : count ≤ 18
  pub wide : width_bytes r.width ≡ binary_length count
  pub sign : r.signed ≡ signed
  pub limits : r.limit ≡ 10 ^ count

-- What was read of the binary item at the end of bytes, for each kind of items whose reader this is.
abbrev pub IsWideWordRead : WideWordReader → List ℕ → (is_number minus : Bool) → (front back : List ℕ) → Type 0
IsWideWordRead r bytes is_number minus front back =
    (count : ℕ) (signed : Bool) → IsWideWordReaderOf count signed r → binary_length count ≤ length bytes
    → IsWideRead (IsBinary count signed (last_bytes (binary_length count) bytes)) is_number minus front back

-- The writer writes binary items of so many digits, more than sixteen, signed or not.
pub record IsWideWordWriterOf (count : ℕ) (signed : Bool) (w : WideWordWriter) : Type 0 where
  pub many : 16 < count
  pub few : count ≤ 18
  pub sign : w.signed ≡ signed
  pub placed : AreDigitPicks true (2 * (16 - (count - 16))) 2 (count - 16) w.picks.lanes

-- What was written, for each kind of items whose writer this is: the digits in front and the last sixteen, which are not all 0 below zero.
abbrev pub IsWideWordWritten : WideWordWriter → (front back : List ℕ) → Bool → List ℕ → Type 0
IsWideWordWritten w front back minus bytes =
    (count : ℕ) (signed : Bool) → IsWideWordWriterOf count signed w → AreTens front → AreTens back → (IsTrue minus → 0 < number_of (take (count - 16) front ++ back))
    → bytes ≡ binary_form count (signed && minus) (take (count - 16) front ++ back)
