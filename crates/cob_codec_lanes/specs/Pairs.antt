-- Items of at most sixteen bytes that are read as numbers in two vectors.
use Rattle.std.specs.Prelude.{◌≡◌, ℕ, ◌≤◌, pos, negsuc, Bool, List, length}
use Rattle.cob_codec_lanes.specs.Readers.{AreLanesTaken, IsLanesRead, IsReaderOf}
use Rattle.cob_codec_lanes.specs.declared.pair_reader.PairReader.{PairReader}

-- The reader reads items of so many bytes, which represent numbers of at most thirty-two digits: one part keeps the last sixteen digits, and the other
-- those in front of them.
pub record IsPairReaderOf (represents : List ℕ → Bool → List ℕ → Type 0) (size : ℕ) (r : PairReader) : Type 0 where
  pub front : IsReaderOf represents size 16 (negsuc 15) r.front
  pub back : IsReaderOf represents size 16 (pos 0) r.back
  pub one : (bytes : List ℕ) (a b : Bool) (ds es : List ℕ) → represents bytes a ds → represents bytes b es → ds ≡ es
  pub few : (bytes : List ℕ) (negative : Bool) (digits : List ℕ) → represents bytes negative digits → length digits ≤ 32

-- What was read of the item at the end of bytes, and what was taken in front of it.
pub record IsPairRead (r : PairReader) (bytes : List ℕ) (is_number minus : Bool) (front back : List ℕ) : Type 0 where
  pub read : IsLanesRead r.back bytes is_number minus back
  pub taken : AreLanesTaken r.front bytes front
