-- What a text of digits in two vectors is made of.
use Rattle.std.specs.Prelude.{◌≡◌, ℕ, ◌+◌, ◌%◌, ◌<◌, Bool, if◌then◌else◌, List, ◌++◌, length, slice_index}
use Rattle.cob_codec_lanes.specs.Lanes.{picked_at}
use Rattle.cob_codec_lanes.specs.declared.long_text.LongText.{LongText}
use Rattle.cob_codec_lanes.specs.declared.long_text.PairText.{PairText}

-- Sixteen bytes that are made of digits in two vectors and a sign: the digits that they show, and what is added to them.
pub record AreShownOfBoth (t : PairText) (minus : Bool) (front back bytes : List ℕ) : Type 0 where
  pub long : length bytes ≡ 16
  pub each : (i : ℕ) → i < 16 → slice_index bytes i
      ≡ (picked_at front (slice_index t.front.lanes i) + picked_at back (slice_index t.back.lanes i) + slice_index (if minus then t.minus else t.plus) i) % 256

-- Forty-eight bytes that are made so: sixteen, sixteen behind them, and sixteen behind these.
pub record AreLonglyShown (t : LongText) (minus : Bool) (front back bytes : List ℕ) : Type 0 where
  pub one : List ℕ
  pub two : List ℕ
  pub three : List ℕ
  pub first : AreShownOfBoth t.first minus front back one
  pub second : AreShownOfBoth t.second minus front back two
  pub third : AreShownOfBoth t.third minus front back three
  pub all : bytes ≡ (one ++ two) ++ three
