-- What a reader of lanes takes of a window, and what it is to read a kind of item.
use Rattle.std.specs.Prelude.{◌≡◌, ℕ, ◌-◌, ◌/◌, ◌<◌, ◌≤◌, ℤ, pos, ◌-ℤ◌, Bool, true, false, List, length, map, slice_index, Some}
use Rattle.cob_decimal.specs.Decimal.{IsDigits, number_of, digit_at}
use Rattle.cob_codec.specs.Sign.{IsSigned}
use Rattle.cob_codec.specs.Zoned.{low_digit}
use Rattle.cob_codec_lanes.specs.Lanes.{AreBounded, IsVector, halves_at}
use Rattle.cob_codec_lanes.specs.Windows.{last_bytes}
use Rattle.cob_codec_lanes.specs.Signs.{byte_meaning}
use Rattle.cob_codec_lanes.specs.declared.reader.LaneReader.{LaneReader}

-- The window passes the reader: its half bytes are within the bounds, and the sign's byte is a sign, a minus or not.
pub record LanesPass (r : LaneReader) (v : List ℕ) (minus : Bool) : Type 0 where
  pub within : AreBounded r.bounds.least_high r.bounds.most_high r.bounds.most_low v
  pub sign : byte_meaning r.sign r.signed (slice_index v r.place) ≡ Some minus

-- The lanes that the reader takes of the window.
pub record AreTaken (r : LaneReader) (v digits : List ℕ) : Type 0 where
  pub long : length digits ≡ 16
  pub each : (i : ℕ) → i < 16 → slice_index digits i ≡ halves_at v (slice_index r.high.lanes i) (slice_index r.low.lanes i)

-- The first lanes, as many as are wanted, are the digits of the number when it is moved left by so many places; all others are 0.
pub record AreWanted (wanted : ℕ) (shift : ℤ) (number : ℕ) (digits : List ℕ) : Type 0 where
  pub long : length digits ≡ 16
  pub each : (j : ℕ) → j < wanted → slice_index digits j ≡ digit_at number (pos (wanted - 1 - j) -ℤ shift)
  pub rest : (j : ℕ) → wanted ≤ j → j < 16 → slice_index digits j ≡ 0

-- The bytes represent a number with this sign, and these digits of it are kept.
pub record AreRead (represents : Bool → List ℕ → Type 0) (wanted : ℕ) (shift : ℤ) (minus : Bool) (kept : List ℕ) : Type 0 where
  pub negative : Bool
  pub digits : List ℕ
  pub represented : represents negative digits
  pub valid : IsDigits digits
  pub sign : IsSigned minus digits negative
  pub held : AreWanted wanted shift (number_of digits) kept

-- The reader reads items of so many bytes at the end of windows: those that pass represent a number, of which it keeps the digits that are
-- wanted, and those that represent a number pass.
pub record IsReaderOf (represents : List ℕ → Bool → List ℕ → Type 0) (size wanted : ℕ) (shift : ℤ) (r : LaneReader) : Type 0 where
  pub fits : size ≤ 16
  pub room : wanted ≤ 16
  pub reads : (v kept : List ℕ) (minus : Bool) → IsVector v → LanesPass r v minus → AreTaken r v kept
      → AreRead (represents (last_bytes size v)) wanted shift minus kept
  pub passes : (v : List ℕ) (negative : Bool) (digits : List ℕ) → IsVector v → represents (last_bytes size v) negative digits
      → (minus : Bool) × LanesPass r v minus

-- The bytes are the characters of so many digits, and stand for the whole number of these digits, which isn't negative.
pub record AreNumeralsOf (count : ℕ) (bytes : List ℕ) (negative : Bool) (digits : List ℕ) : Type 0 where
  pub long : length bytes ≡ count
  pub zones : (k : ℕ) → k < count → slice_index bytes k / 16 ≡ 0xF
  pub low_halves : digits ≡ map low_digit bytes
  pub valid : IsDigits digits
  pub plus : negative ≡ false

-- The lanes that were taken of the item at the end of bytes, whether they represent a number or not: of a window that ends with the same bytes.
pub record AreLanesTaken (r : LaneReader) (bytes digits : List ℕ) : Type 0 where
  pub window : List ℕ
  pub vector : IsVector window
  pub same : (size : ℕ) → size ≤ 16 → size ≤ length bytes → last_bytes size window ≡ last_bytes size bytes
  pub taken : AreTaken r window digits

-- What was read of the item at the end of bytes: of a window that ends with the same bytes, whether it passes, and the lanes that were taken.
pub record IsLanesRead (r : LaneReader) (bytes : List ℕ) (is_number minus : Bool) (digits : List ℕ) : Type 0 where
  pub window : List ℕ
  pub vector : IsVector window
  pub same : (size : ℕ) → size ≤ 16 → size ≤ length bytes → last_bytes size window ≡ last_bytes size bytes
  pub number : is_number ≡ true → LanesPass r window minus
  pub nothing : is_number ≡ false → (m : Bool) → ¬ LanesPass r window m
  pub taken : AreTaken r window digits
