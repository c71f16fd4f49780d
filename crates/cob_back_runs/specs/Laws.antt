-- What conversions keep that lose nothing.
use Rattle.std.specs.Prelude.{◌≡◌, ℕ, List, [], Ok}
use Rattle.std.specs.List.{AllByRecursion}
use Rattle.cob_records.specs.Forms.{Come, FitsForm, written_of}
use Rattle.cob_copybook.specs.Books.{IsRecordDescription}
use Rattle.cob_move_data.specs.Moves.{AreMoves}
use Rattle.cob_convert_stream.specs.Input.{records_in}
pub use Rattle.cob_convert_record.specs.Conversion.{HasImage}
use Rattle.cob_convert_record.specs.Conversion.{Conversion, out_length}
use Rattle.cob_convert.specs.Converted.{Converted}
use Rattle.cob_move_deeds.specs.Deeds.{moves_of_deeds}
use Rattle.cob_convert.specs.Run.{records_out}
use Rattle.cob_back_moves.specs.Returns.{HoldsAgain}
use Rattle.cob_back_runs.specs.Keeps.{AreLossless, Keeps}

-- what holds of each conversion: its records are record descriptions, its output has a storage before the first move, and its moves are moves between them
pub record IsPrepared (conversion : Conversion) : Type 0 where
  pub input : IsRecordDescription conversion.records.input
  pub output : IsRecordDescription conversion.records.output
  pub image : HasImage conversion.records.output
  pub moves : AreMoves conversion.records (moves_of_deeds conversion.deeds)

-- law: conversions that lose nothing keep what the first one converts
abbrev pub LosslessKeep : Type 0
LosslessKeep = (there back : Conversion) → IsPrepared there → IsPrepared back → AreLossless there back → Keeps there back

-- What a run back wrote holds again what the run there read: record by record, each occurrence of each named elementary item.
pub record ComeAllBack (there back : Conversion) (bytes again : List ℕ) : Type 0 where
  pub pairs : List (List ℕ × List ℕ)
  pub come : Come there.in_form 0 (records_in pairs) bytes 0 []
  pub output : again ≡ written_of back.out_form (records_out pairs)
  pub each : AllByRecursion (λ (pair : List ℕ × List ℕ). HoldsAgain there.records.input pair.0 pair.1) pairs

-- Law: where a run there ends clean, a run back over what it wrote, in the form in which it was written, ends clean, with as many records, and what it
-- writes holds again what the first run read.
abbrev pub LosslessRuns : Type 0
LosslessRuns = (there back : Conversion) (bytes written : List ℕ) (number : ℕ)
    → FitsForm there.out_form (out_length there) → back.in_form ≡ there.out_form → Keeps there back → Converted there bytes [] written (Ok number)
    → (again : List ℕ) × Converted back written [] again (Ok number) × ComeAllBack there back bytes again
