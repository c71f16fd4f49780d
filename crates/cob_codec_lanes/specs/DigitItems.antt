-- Items of sixteen digits and more that have a byte for each digit.
use Rattle.std.specs.Prelude.{◌≡◌, ◌≢◌, ℕ, ◌+◌, ◌-◌, ◌/◌, ◌%◌, ◌<◌, Bool, true, false, if◌then◌else◌, List, length, map, slice_index, take, drop, Some}
use Rattle.cob_decimal.specs.Decimal.{IsDigits, number_of}
use Rattle.cob_codec.specs.Sign.{IsSigned}
use Rattle.cob_codec.specs.Zoned.{low_digit}
use Rattle.cob_codec_lanes.specs.Signs.{byte_meaning}
use Rattle.cob_codec_lanes.specs.Wide.{AreHeldWide}
use Rattle.cob_codec_lanes.specs.Windows.{last_bytes}
use Rattle.cob_codec_lanes.specs.declared.digit_writer.DigitWriter.{DigitWriter}
use Rattle.cob_codec_lanes.specs.declared.digit_reader.DigitReader.{DigitReader}

-- ---- what is read

-- The digits of so many bytes, from this one on.
abbrev pub digits_from : (first count : ℕ) → List ℕ → List ℕ
digits_from first count bytes = map low_digit (take count (drop first bytes))

-- The bytes are those of an item: digits stand where it has them, in zone F but for one byte that may have any, and the sign's byte is a sign,
-- minus or not.
pub record AreSignedDigitBytes (r : DigitReader) (bytes : List ℕ) (minus : Bool) : Type 0 where
  pub low : (k : ℕ) → k < r.digits.count → slice_index bytes (r.digits.first + k) % 16 < 10
  pub zones : (k : ℕ) → k < r.digits.count → r.digits.first + k ≢ r.free → slice_index bytes (r.digits.first + k) / 16 ≡ 15
  pub sign : byte_meaning r.sign r.signed (slice_index bytes r.digits.place) ≡ Some minus

-- The reader reads items of so many bytes: those that are digits and a sign represent the number of these, and those that represent a number are.
pub record IsDigitReaderOf (represents : List ℕ → Bool → List ℕ → Type 0) (size : ℕ) (r : DigitReader) : Type 0 where
  pub bytes : r.digits.size ≡ size
  pub reads : (bytes : List ℕ) (minus negative : Bool) → length bytes ≡ size → AreSignedDigitBytes r bytes minus
      → IsDigits (digits_from r.digits.first r.digits.count bytes) → IsSigned minus (digits_from r.digits.first r.digits.count bytes) negative
      → represents bytes negative (digits_from r.digits.first r.digits.count bytes)
  pub passes : (bytes : List ℕ) (negative : Bool) (digits : List ℕ) → length bytes ≡ size → represents bytes negative digits → (minus : Bool) × AreSignedDigitBytes r bytes minus

-- What was read of the item at the end of bytes: whether its bytes are digits and a sign, and the digits in two vectors.
pub record AreDigitsRead (r : DigitReader) (bytes : List ℕ) (is_number minus : Bool) (front back : List ℕ) : Type 0 where
  pub number : is_number ≡ true → AreSignedDigitBytes r (last_bytes r.digits.size bytes) minus
  pub nothing : is_number ≡ false → (m : Bool) → ¬ AreSignedDigitBytes r (last_bytes r.digits.size bytes) m
  pub held : is_number ≡ true → AreHeldWide (number_of (digits_from r.digits.first r.digits.count (last_bytes r.digits.size bytes))) front back

-- ---- what is written

-- The sign of a number that is negative or not, as it is written.
abbrev pub sign_written : DigitWriter → Bool → ℕ
sign_written w minus = if minus then w.minus else w.plus

-- The bytes that are made of these digits and a sign: each digit in zone F, and in the sign's byte the sign, above a digit where it isn't the sign's own.
pub record AreDigitsMade (w : DigitWriter) (minus : Bool) (digits bytes : List ℕ) : Type 0 where
  pub long : length bytes ≡ w.digits.size
  pub each : (k : ℕ) → k < w.digits.count → w.digits.first + k ≢ w.digits.place → slice_index bytes (w.digits.first + k) ≡ 240 + slice_index digits k
  pub sign : slice_index bytes w.digits.place ≡ sign_written w minus + (if w.own then 0 else slice_index digits (w.digits.place - w.digits.first))

-- The writer writes items of so many digits and bytes: what it makes of these digits and a sign is the item's.
pub record IsDigitWriterOf (written : Bool → List ℕ → List ℕ) (count size : ℕ) (w : DigitWriter) : Type 0 where
  pub many : w.digits.count ≡ count
  pub bytes : w.digits.size ≡ size
  pub writes : (minus : Bool) (digits bytes : List ℕ) → length digits ≡ count → IsDigits digits → AreDigitsMade w minus digits bytes → bytes ≡ written minus digits
