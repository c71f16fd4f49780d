-- What becomes of one record is determined.
use Rattle.std.specs.Prelude.{◌≡◌, ℕ, List}
use Rattle.cob_convert_record.specs.Conversion.{Conversion}
use Rattle.cob_move_apply.specs.declared.stop.Stop.{Stop}
use Rattle.cob_convert_stream.specs.declared.misfit.MeasureFault.{MeasureFault}
use Rattle.cob_convert_stream.specs.Sizes.{IsSized, IsMeasureFault}
use Rattle.cob_convert_record.specs.Becoming.{Becomes, StopsAt}

-- A record is one of its layout or isn't, for one reason; and of one input there is one output or one stop, and never both.
pub record IsDecided (conversion : Conversion) : Type 0 where
  pub sized_or_misfit : (input : List ℕ) (why : MeasureFault)
      → IsSized conversion.in_form conversion.records.input input → IsMeasureFault conversion.in_form conversion.records.input input why → ⊥
  pub one_misfit : (input : List ℕ) (a b : MeasureFault)
      → IsMeasureFault conversion.in_form conversion.records.input input a → IsMeasureFault conversion.in_form conversion.records.input input b
      → a ≡ b
  pub one_output : (input a b : List ℕ) → Becomes conversion input a → Becomes conversion input b → a ≡ b
  pub one_stop : (input : List ℕ) (a b : Stop) → StopsAt conversion input a → StopsAt conversion input b → a ≡ b
  pub not_both : (input written : List ℕ) (stop : Stop) → Becomes conversion input written → StopsAt conversion input stop → ⊥

-- so it is for every conversion
abbrev pub ConversionsAreDecided : Type 0
ConversionsAreDecided = (conversion : Conversion) → IsDecided conversion
