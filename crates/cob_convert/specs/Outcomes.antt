-- What becomes of records that come whole, one after another: each is converted or rejected.
use Rattle.std.specs.Prelude.{◌≡◌, ℕ, ◌+◌, min, List, [], ◌∷◌, ◌++◌, length, map, Option, None, Some}
use Rattle.std.specs.List.{flat_map}
use Rattle.cob_records.specs.Alone.{framed_alone}
use Rattle.cob_records.specs.Device.{greatest_count}
use Rattle.cob_records.specs.declared.outlet.Outlet.{Outlet}
use Rattle.cob_records.specs.declared.records.Form.{Form}
use Rattle.cob_records.specs.Forms.{outlet_of, outlet_with_all, written_by_all}
use Rattle.cob_records.specs.Frame.{IsRecord}
use Rattle.cob_convert_record.specs.Becoming.{StopsAt}
use Rattle.cob_convert_record.specs.Conversion.{Conversion, in_length}
use Rattle.cob_convert_record.specs.Reasons.{stop_reason}
use Rattle.cob_move_apply.specs.declared.stop.Stop.{Stop}
use Rattle.cob_convert_stream.specs.declared.fault.Reason.{Reason}
use Rattle.cob_convert_stream.specs.declared.fault.RunFault.{RunFault}
use Rattle.cob_convert_stream.specs.Reasons.{fault_at}
use Rattle.cob_convert_stream.specs.Sizes.{IsSized}
use Rattle.cob_convert_stream.specs.Whole.{IsMisfitReason}
use Rattle.cob_convert.specs.Run.{IsConverted}

-- what became of a record that came whole: what is written of it, or why it was rejected
pub data Outcome : Type 0 where
  Became : List ℕ → Outcome
  WasRejected : Reason → Outcome

-- why a record that came whole is rejected: it isn't one of its layout, or it is, and its conversion stops
pub data IsRejected (conversion : Conversion) (input : List ℕ) (why : Reason) : Type 0 where
  ByLayout : IsMisfitReason conversion.in_form conversion.records.input input why → IsRejected conversion input why
  ByConversion : (stop : Stop) → IsSized conversion.in_form conversion.records.input input → StopsAt conversion input stop → why ≡ stop_reason stop
      → IsRejected conversion input why

-- a record came whole, and it became what a conversion makes of it, or was rejected
abbrev pub HasOutcome : Conversion → List ℕ → Outcome → Type 0
HasOutcome conversion input (Became written) = IsConverted conversion (input, written)
HasOutcome conversion input (WasRejected why) = IsRecord conversion.in_form (in_length conversion) input × IsRejected conversion input why

-- a record that came, beside what became of it
abbrev pub HasItsOutcome : Conversion → List ℕ × Outcome → Type 0
HasItsOutcome conversion record_came = HasOutcome conversion record_came.0 record_came.1

-- the records that came
abbrev pub inputs_of : List (List ℕ × Outcome) → List (List ℕ)
inputs_of records = map (λ (came : List ℕ × Outcome). came.0) records

-- what a record became, if it was converted
abbrev pub output_of : Outcome → List (List ℕ)
output_of (Became written) = written ∷ []
output_of (WasRejected why) = []

-- a record as it came, if it was rejected
abbrev pub rejected_part : List ℕ → Outcome → List (List ℕ)
rejected_part input (Became written) = []
rejected_part input (WasRejected why) = input ∷ []

-- what those became that were converted, in order
abbrev pub converted_of : List (List ℕ × Outcome) → List (List ℕ)
converted_of records = flat_map (λ (came : List ℕ × Outcome). output_of came.1) records

-- those that were rejected, as they came, in order
abbrev pub rejected_of : List (List ℕ × Outcome) → List (List ℕ)
rejected_of records = flat_map (λ (came : List ℕ × Outcome). rejected_part came.0 came.1) records

-- what is set aside: the frames of the rejected records, each by itself
abbrev pub set_aside_of : Form → List (List ℕ × Outcome) → List ℕ
set_aside_of form records = flat_map (framed_alone form) (rejected_of records)

-- what was written of those that were converted, the open block apart
abbrev pub written_behind : Conversion → List (List ℕ × Outcome) → List ℕ
written_behind conversion records = written_by_all (outlet_of conversion.out_form) (converted_of records)

-- the outlet, to which went what they became: in form b it holds the open block
abbrev pub outlet_for : Conversion → List (List ℕ × Outcome) → Outlet
outlet_for conversion records = outlet_with_all (outlet_of conversion.out_form) (converted_of records)

-- what is noted of a record behind these: if it was rejected its fault, with its number among all
abbrev pub note_of : Conversion → List (List ℕ × Outcome) → Outcome → List RunFault
note_of conversion before (Became written) = []
note_of conversion before (WasRejected why) =
    fault_at (length before + 1) why (min (length (written_behind conversion before)) greatest_count) ∷ []

-- what is noted of records behind others
abbrev pub notes_behind : Conversion → (before records : List (List ℕ × Outcome)) → List RunFault
notes_behind conversion before [] = []
notes_behind conversion before (came ∷ records) =
    note_of conversion before came.1 ++ notes_behind conversion (before ++ came ∷ []) records

-- what is noted of all: the faults of those that were rejected, in order
abbrev pub notes_of : Conversion → List (List ℕ × Outcome) → List RunFault
notes_of conversion records = notes_behind conversion [] records

-- the notes, where the end tells them, and then these
abbrev pub append_notes : Option (List RunFault) → List RunFault → Option (List RunFault)
append_notes None more = None
append_notes (Some notes) more = Some (notes ++ more)
