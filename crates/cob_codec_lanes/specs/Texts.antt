-- What a text of digits is made of, and the digits that stand in it.
use Rattle.std.specs.Prelude.{◌≡◌, ℕ, ◌+◌, ◌-◌, ◌%◌, ◌<◌, ◌≤◌, ℤ, Bool, true, ◌&&◌, nat_lt, nat_le, if◌then◌else◌, replicate, List, ◌++◌, length, slice_index}
use Rattle.cob_codec_lanes.specs.Lanes.{picked_at}
use Rattle.cob_codec_lanes.specs.Windows.{ArePowerPicks}
use Rattle.cob_codec_lanes.specs.declared.text.DigitPlaces.{DigitPlaces}
use Rattle.cob_codec_lanes.specs.declared.text.KeptDigits.{KeptDigits}
use Rattle.cob_codec_lanes.specs.declared.text.LaneText.{LaneText}
use Rattle.cob_codec_lanes.specs.declared.text_lanes.TextLanes.{TextLanes}
use Rattle.cob_codec_lanes.specs.declared.text.WideText.{WideText}

-- ---- texts that are made

-- Sixteen bytes that are made of digits and a sign: the digits that they show, and what is added to them.
pub record AreShown (t : LaneText) (minus : Bool) (digits bytes : List ℕ) : Type 0 where
  pub long : length bytes ≡ 16
  pub each : (i : ℕ) → i < 16 → slice_index bytes i ≡ (picked_at digits (slice_index t.picks.lanes i) + slice_index (if minus then t.minus else t.plus) i) % 256

-- Thirty-two bytes that are made of digits and a sign: sixteen, and sixteen behind them.
pub record AreWidelyShown (t : WideText) (minus : Bool) (digits bytes : List ℕ) : Type 0 where
  pub front : List ℕ
  pub back : List ℕ
  pub first : AreShown t.front minus digits front
  pub last : AreShown t.back minus digits back
  pub both : bytes ≡ front ++ back

-- ---- texts that are read

-- At most thirty-two bytes, and zeros behind them.
abbrev pub padded_text : List ℕ → List ℕ
padded_text bytes = bytes ++ replicate (32 - length bytes) 0

-- The lanes hold thirty-two bytes: sixteen, and sixteen behind them.
abbrev pub all_lanes : TextLanes → List ℕ
all_lanes text = text.front ++ text.back

-- The digit that a byte shows, and 0 for a byte that shows none.
abbrev pub digit_shown : ℕ → ℕ
digit_shown byte = if nat_lt 240 byte && nat_le byte 249 then byte - 240 else 0

-- The lane of a byte in sixteen that start at one, if it is one of them; else none.
abbrev pub place_from : (start byte : ℕ) → ℕ
place_from start byte = if nat_le start byte && nat_lt (byte - start) 16 then byte - start else 128

-- The digits are looked for at these bytes of a text, at most sixteen.
pub record ArePlacesAt (at : List ℕ) (places : DigitPlaces) : Type 0 where
  pub few : length at ≤ 16
  pub within : (k : ℕ) → k < length at → slice_index at k < 32
  pub front : (k : ℕ) → k < 16 → slice_index places.front.lanes k ≡ (if nat_lt k (length at) && nat_lt (slice_index at k) 16 then slice_index at k else 128)
  pub back : (k : ℕ) → k < 16 → slice_index places.back.lanes k ≡ (if nat_lt k (length at) && nat_le 16 (slice_index at k) then slice_index at k - 16 else 128)

-- The lanes hold the digits that stand at these bytes of a text, and 0 behind them.
pub record AreDigitsAt (at bytes digits : List ℕ) : Type 0 where
  pub long : length digits ≡ 16
  pub each : (k : ℕ) → k < length at → slice_index digits k ≡ digit_shown (slice_index bytes (slice_index at k))
  pub rest : (k : ℕ) → length at ≤ k → k < 16 → slice_index digits k ≡ 0

-- Of a number whose digits are so many first lanes, those are kept that are wanted when it is moved left by so many places.
pub record IsKeeperOf (count wanted : ℕ) (shift : ℤ) (kept : KeptDigits) : Type 0 where
  pub few : count ≤ 16
  pub room : wanted ≤ 16
  pub picked : ArePowerPicks true 0 2 count wanted shift kept.picks.lanes
