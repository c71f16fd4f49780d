-- Binary items as words.
use Rattle.std.specs.Prelude.{◌≡◌, ℕ, ◌+◌, ◌-◌, ◌*◌, ◌%◌, ◌^◌, ◌≤◌, ◌<◌, ◌&&◌, ℤ, Bool, true, false, IsTrue, if◌then◌else◌, List, length, slice_index, take}
use Rattle.cob_codec.specs.Binary.{IsBinary, binary_form, binary_length, binary_number, signed_number}
use Rattle.cob_decimal.specs.Decimal.{number_of}
use Rattle.cob_codec_lanes.specs.Lanes.{AreTens}
use Rattle.cob_codec_lanes.specs.Readers.{AreRead}
use Rattle.cob_codec_lanes.specs.Windows.{ArePowerPicks, AreDigitPicks, last_bytes}
use Rattle.cob_codec_lanes.specs.Widths.{greatest_plain}
use Rattle.cob_codec_lanes.specs.declared.width.Width.{Width}
use Rattle.cob_codec_lanes.specs.declared.width.Width.TheVariants.{Two, Four, Eight}
use Rattle.cob_codec_lanes.specs.declared.binary.BinaryReader.{BinaryReader}
use Rattle.cob_codec_lanes.specs.declared.binary.BinaryWriter.{BinaryWriter}

-- how many bytes are meant
abbrev pub width_bytes : Width → ℕ
width_bytes Two = 2
width_bytes Four = 4
width_bytes Eight = 8

-- the number of the last bytes is below zero or not, and this is its magnitude, where words up to a plain one are not below zero
abbrev pub IsSignedIn : Width → (plain : ℕ) → List ℕ → Bool → ℕ → Type 0
IsSignedIn width plain bytes negative magnitude = (signed : Bool) → plain ≡ greatest_plain signed width
    → signed_number negative magnitude ≡ binary_number signed (last_bytes (width_bytes width) bytes)

-- the number of four digits, those of this number
abbrev pub four_at : List ℕ → ℕ → ℕ
four_at v i = slice_index v (4 * i) * 1000 + slice_index v (4 * i + 1) * 100 + slice_index v (4 * i + 2) * 10 + slice_index v (4 * i + 3)

-- What was read of an item: a number that its bytes represent, of which the digits that are wanted are kept, or that they represent none.
pub record IsNumberRead (represents : Bool → List ℕ → Type 0) (wanted : ℕ) (shift : ℤ) (is_number minus : Bool) (kept : List ℕ) : Type 0 where
  pub number : is_number ≡ true → AreRead represents wanted shift minus kept
  pub nothing : is_number ≡ false → (negative : Bool) (digits : List ℕ) → ¬ represents negative digits

-- The reader reads binary items of so many digits, and keeps the digits that are wanted when the number is moved left by so many places.
pub record IsBinaryReaderOf (count : ℕ) (signed : Bool) (wanted : ℕ) (shift : ℤ) (r : BinaryReader) : Type 0 where
  pub few : count ≤ 16
  pub room : wanted ≤ 16
  pub wide : width_bytes r.width ≡ binary_length count
  pub sign : r.signed ≡ signed
  pub limits : r.limit ≡ 10 ^ count
  pub picked : ArePowerPicks true 0 2 16 wanted shift r.picks.lanes

-- What was read of the binary item at the end of bytes, for each kind of items whose reader this is.
abbrev pub IsWordRead : BinaryReader → List ℕ → (is_number minus : Bool) → List ℕ → Type 0
IsWordRead r bytes is_number minus kept =
    (count : ℕ) (signed : Bool) (wanted : ℕ) (shift : ℤ) → IsBinaryReaderOf count signed wanted shift r → binary_length count ≤ length bytes
    → IsNumberRead (IsBinary count signed (last_bytes (binary_length count) bytes)) wanted shift is_number minus kept

-- The word of a number that is negative or not: below zero what is left of all words.
abbrev pub turned : Bool → ℕ → ℕ
turned minus magnitude = if minus then (2 ^ 64 - magnitude) % 2 ^ 64 else magnitude

-- The writer writes binary items of so many digits, signed or not.
pub record IsBinaryWriterOf (count : ℕ) (signed : Bool) (w : BinaryWriter) : Type 0 where
  pub few : count ≤ 16
  pub wide : width_bytes w.width ≡ binary_length count
  pub sign : w.signed ≡ signed
  pub placed : AreDigitPicks true (2 * (16 - count)) 2 count w.picks.lanes

-- What was written into n bytes, for each kind of items whose writer this is: their first digits, which are not all 0 below zero.
abbrev pub IsWordWritten : BinaryWriter → List ℕ → Bool → ℕ → List ℕ → Type 0
IsWordWritten w digits minus n bytes =
    (count : ℕ) (signed : Bool) → IsBinaryWriterOf count signed w → n ≡ binary_length count → AreTens digits → (IsTrue minus → 0 < number_of (take count digits))
    → bytes ≡ binary_form count (signed && minus) (take count digits)
