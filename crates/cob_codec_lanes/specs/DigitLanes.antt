-- Thirty-two lanes of which the last ones are the bytes of digits.
use Rattle.std.specs.Prelude.{◌≡◌, ℕ, ◌+◌, ◌-◌, ◌==◌, ◌<◌, Bool, ◌&&◌, not, nat_le, if◌then◌else◌, slice_index}
use Rattle.cob_codec_lanes.specs.declared.lanes.Bounds.{Bounds}

-- A digit stands in this one of thirty-two lanes, of which so many last ones are digits.
abbrev pub has_digit : (count lane : ℕ) → Bool
has_digit count lane = nat_le 32 (count + lane)

-- Which byte of the item stands in this one of them.
abbrev pub lane_byte : (first count lane : ℕ) → ℕ
lane_byte first count lane = first + count + lane - 32

-- The least zone of the byte in a lane: F where a digit stands, but in the byte that may have any.
abbrev pub least_zone : (first count free lane : ℕ) → ℕ
least_zone first count free lane = if has_digit count lane && not (lane_byte first count lane == free) then 15 else 0

-- The greatest low half of it: 9 where a digit stands.
abbrev pub most_digit : (count lane : ℕ) → ℕ
most_digit count lane = if has_digit count lane then 9 else 15

-- The lane itself where a digit stands in it, else none.
abbrev pub digit_lane : (count lane : ℕ) → ℕ
digit_lane count lane = if has_digit count lane then lane else 128

-- The bounds are those of the sixteen lanes from this one on.
pub record AreDigitBounds (first count free start : ℕ) (b : Bounds) : Type 0 where
  pub least : (i : ℕ) → i < 16 → slice_index b.least_high i ≡ least_zone first count free (start + i)
  pub most : (i : ℕ) → i < 16 → slice_index b.most_high i ≡ 15
  pub low : (i : ℕ) → i < 16 → slice_index b.most_low i ≡ most_digit count (start + i)
