-- What a writer of lanes makes of digits, and what it is to write a kind of item.
use Rattle.std.specs.Prelude.{◌≡◌, ℕ, ◌+◌, ◌-◌, ◌*◌, ◌%◌, ◌<◌, ◌≤◌, Bool, if◌then◌else◌, List, ◌++◌, length, slice_index, take}
use Rattle.cob_codec_lanes.specs.Lanes.{AreTens, picked_at}
use Rattle.cob_codec_lanes.specs.declared.wide_writer.WideWriter.{WideWriter}
use Rattle.cob_codec_lanes.specs.declared.writer.LaneWriter.{LaneWriter}

-- What is added to the digits of a number that is negative or not.
abbrev pub base_of : LaneWriter → Bool → List ℕ
base_of w minus = if minus then w.minus else w.plus

-- Sixteen bytes that the writer makes of digits and a sign: the digits in their half bytes, and what is added to them.
pub record AreMade (w : LaneWriter) (minus : Bool) (digits bytes : List ℕ) : Type 0 where
  pub long : length bytes ≡ 16
  pub each : (i : ℕ) → i < 16 → slice_index bytes i
      ≡ (picked_at digits (slice_index w.high.lanes i) * 16 + picked_at digits (slice_index w.low.lanes i) + slice_index (base_of w minus) i) % 256

-- The writer writes items of so many digits and bytes: the first of the bytes that it makes are the item's for these digits and the sign.
pub record IsWriterOf (written : Bool → List ℕ → List ℕ) (count size : ℕ) (w : LaneWriter) : Type 0 where
  pub room : count ≤ 16
  pub fits : size ≤ 16
  pub writes : (minus : Bool) (digits bytes : List ℕ) → length digits ≡ 16 → AreTens digits → AreMade w minus digits bytes
      → take size bytes ≡ written minus (take count digits)

-- Sixteen bytes that the writer makes of the digits in front, the last sixteen and a sign: of both together.
pub record AreMadeOfBoth (w : WideWriter) (minus : Bool) (front back bytes : List ℕ) : Type 0 where
  pub long : length bytes ≡ 16
  pub first : List ℕ
  pub last : List ℕ
  pub leads : AreMade w.front minus front first
  pub ends : AreMade w.back minus back last
  pub each : (i : ℕ) → i < 16 → slice_index bytes i ≡ (slice_index first i + slice_index last i) % 256

-- The writer writes items of so many digits and bytes, more than sixteen digits: the first of the bytes that it makes are the item's for the
-- digits in front, the last sixteen and the sign.
pub record IsWideWriterOf (written : Bool → List ℕ → List ℕ) (count size : ℕ) (w : WideWriter) : Type 0 where
  pub many : 16 < count
  pub room : count ≤ 32
  pub fits : size ≤ 16
  pub writes : (minus : Bool) (front back bytes : List ℕ) → length front ≡ 16 → length back ≡ 16 → AreTens front → AreTens back → AreMadeOfBoth w minus front back bytes
      → take size bytes ≡ written minus (take (count - 16) front ++ back)
