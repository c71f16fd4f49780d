-- What becomes of a record that came whole: its output, or why it has none.
use Rattle.std.specs.Prelude.{ℕ, List}
use Rattle.cob_convert_stream.specs.Sizes.{IsSized}
use Rattle.cob_convert_stream.specs.Whole.{IsMisfitReason}
use Rattle.cob_convert_record.specs.Becoming.{Becomes, StopsAt}
use Rattle.cob_convert_record.specs.Conversion.{Conversion}
use Rattle.cob_convert_record.specs.declared.rejection.Rejection.{Rejection}
use Rattle.cob_convert_record.specs.declared.rejection.Rejection.TheVariants.{Misfit, Stopped}

-- an input record that came whole is one of its layout, and becomes what is written
abbrev pub BecomesWhole : Conversion → (input written : List ℕ) → Type 0
BecomesWhole conversion input written = IsSized conversion.in_form conversion.records.input input × Becomes conversion input written

-- An input record that came whole has no output for this: it isn't one of its layout; or it is, and its conversion stops.
abbrev pub IsRejectedFor : Conversion → List ℕ → Rejection → Type 0
IsRejectedFor conversion input (Misfit why) = IsMisfitReason conversion.in_form conversion.records.input input why
IsRejectedFor conversion input (Stopped stop) = IsSized conversion.in_form conversion.records.input input × StopsAt conversion input stop
