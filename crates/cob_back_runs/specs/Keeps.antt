-- Conversions there and back that lose nothing, and what they keep of each record.
use Rattle.std.specs.Prelude.{ℕ, List}
use Rattle.cob_records.specs.Frame.{IsRecord}
use Rattle.cob_convert_stream.specs.Sizes.{IsSized}
use Rattle.cob_convert_record.specs.Becoming.{Becomes}
use Rattle.cob_convert_record.specs.Conversion.{Conversion, in_length}
use Rattle.cob_move_deeds.specs.Deeds.{IsStraight, moves_of_deeds}
use Rattle.cob_back_moves.specs.Lossless.{IsLossless}
use Rattle.cob_back_moves.specs.Returns.{AreTurned, HoldsAgain}

-- The conversions lose nothing: neither has a test, their records agree crosswise, and the moves of the one bring back what those of the other take.
abbrev pub AreLossless : Conversion → Conversion → Type 0
AreLossless there back =
    IsStraight there.deeds × IsStraight back.deeds × IsLossless there.records back.records (moves_of_deeds there.deeds) (moves_of_deeds back.deeds)

-- What an input record became is a record of the conversion back, which it converts without a stop, and what that writes holds again what the input
-- record holds: each occurrence of each named elementary item represents the same value, or has the same bytes where it is of characters.
pub record ComesBack (there back : Conversion) (input written : List ℕ) : Type 0 where
  pub whole : IsRecord back.in_form (in_length back) written
  pub sized : IsSized back.in_form back.records.input written
  pub last : List ℕ
  pub becomes : Becomes back written last
  pub again : HoldsAgain there.records.input input last

-- The conversion back keeps what the other one converts: their records agree crosswise, and each input record that the first converts comes back.
pub record Keeps (there back : Conversion) : Type 0 where
  pub turned : AreTurned there.records back.records
  pub each : (input written : List ℕ) → IsSized there.in_form there.records.input input → Becomes there input written → ComesBack there back input written
