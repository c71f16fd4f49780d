-- Texts of at most forty-eight bytes in three vectors, and where digits stand in them.
use Rattle.std.specs.Prelude.{◌≡◌, ℕ, ◌-◌, ◌<◌, ◌≤◌, nat_lt, if◌then◌else◌, replicate, List, ◌++◌, length, slice_index}
use Rattle.cob_codec_lanes.specs.Texts.{all_lanes, place_from}
use Rattle.cob_codec_lanes.specs.declared.long_places.LongPlaces.{LongPlaces}
use Rattle.cob_codec_lanes.specs.declared.long_text_lanes.LongTextLanes.{LongTextLanes}

-- At most forty-eight bytes, and zeros behind them.
abbrev pub padded_long_text : List ℕ → List ℕ
padded_long_text bytes = bytes ++ replicate (48 - length bytes) 0

-- The lanes hold forty-eight bytes: thirty-two, and sixteen behind them.
abbrev pub all_long_lanes : LongTextLanes → List ℕ
all_long_lanes text = all_lanes text.lead ++ text.last

-- The lanes of these bytes of a text, at most sixteen, in those of its bytes that start at one; behind them none.
abbrev pub ArePlacesFrom : (start : ℕ) → (at lanes : List ℕ) → Type 0
ArePlacesFrom start at lanes = (k : ℕ) → k < 16 → slice_index lanes k ≡ (if nat_lt k (length at) then place_from start (slice_index at k) else 128)

-- The digits are looked for at these bytes of a text, at most sixteen.
pub record AreLongPlacesAt (at : List ℕ) (places : LongPlaces) : Type 0 where
  pub few : length at ≤ 16
  pub within : (k : ℕ) → k < length at → slice_index at k < 48
  pub first : ArePlacesFrom 0 at places.first.lanes
  pub second : ArePlacesFrom 16 at places.second.lanes
  pub third : ArePlacesFrom 32 at places.third.lanes
