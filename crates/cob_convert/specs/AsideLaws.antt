-- The bytes decide a run that sets rejected records aside; where none is rejected it is a run; and what was set aside is rejected again.
use Rattle.std.specs.Prelude.{◌≡◌, ℕ, ◌++◌, Bool, false, ◌||◌, List, [], Some, Ok, Err, Result}
use Rattle.std.specs.Io.KnownBytes.{append_known}
use Rattle.cob_records.specs.Alone.{HasRoomAlone, framed_alone}
use Rattle.cob_records.specs.Forms.{HasBlockSize}
use Rattle.cob_records.specs.Frame.{IsRecord}
use Rattle.cob_convert_record.specs.Conversion.{Conversion, in_length}
use Rattle.cob_convert_stream.specs.declared.fault.Reason.{Reason}
use Rattle.cob_convert_stream.specs.declared.fault.RunFault.{RunFault}
use Rattle.cob_convert.specs.declared.aside.AsideFault.{AsideFault}
use Rattle.cob_convert.specs.declared.aside.AsideFault.TheVariants as fault
use Rattle.cob_convert.specs.declared.aside.Tally.{Tally}
use Rattle.cob_convert.specs.Converted.{Converted}
use Rattle.cob_convert.specs.Unique.{HasBytes}
use Rattle.cob_convert_stream.specs.Reasons.{fault_at}
use Rattle.cob_convert.specs.Outcomes.{IsRejected}
use Rattle.cob_convert.specs.Aside.{Outputs, RanAside, is_aside_fault, is_read_fault, is_sink_fault}

-- the answer is that a call of an end failed
abbrev pub is_device_fault : Result Tally AsideFault → Bool
is_device_fault answer = is_read_fault answer || (is_sink_fault answer || is_aside_fault answer)

-- Two runs over the same bytes by ends that told the same, of which no call failed, have one answer and leave one rest, and the same was written, set
-- aside and noted.
abbrev pub AsideIsOne : Type 0
AsideIsOne = (conversion : Conversion) (most : ℕ) (bytes rest left : List ℕ) (before now other : Outputs) (answer second : Result Tally AsideFault)
    → HasBytes conversion.records.input → HasBlockSize conversion.in_form
    → RanAside conversion most answer bytes rest before now → RanAside conversion most second bytes left before other
    → is_device_fault answer ≡ false → is_device_fault second ≡ false → (answer ≡ second) × (now ≡ other) × (rest ≡ left)

-- a run answers this, where one that sets records aside answers that and set none aside
abbrev pub IsPlainAnswer : Result Tally AsideFault → Result ℕ RunFault → Type 0
IsPlainAnswer (Ok tally) second = second ≡ Ok tally.converted
IsPlainAnswer (Err (fault.Stopped stop)) second = second ≡ Err stop
IsPlainAnswer (Err (fault.NotSetAside number cause written)) second = ⊥

-- the answer is that all records were converted, and none was rejected
abbrev pub RejectsNone : Result Tally AsideFault → Type 0
RejectsNone (Ok tally) = tally.rejected ≡ 0
RejectsNone (Err stop) = ⊥

-- what was written is the conversion of these bytes, with the same answer
abbrev pub IsConversion : Conversion → (bytes rest : List ℕ) → (before now : Outputs) → Result Tally AsideFault → Type 0
IsConversion conversion bytes rest before now answer =
    (written : List ℕ) × (second : Result ℕ RunFault) × (now.sink ≡ append_known before.sink written) × IsPlainAnswer answer second
    × Converted conversion bytes rest written second

-- A run that may set none aside, that rejected none, or that noted none, whatever ended it, is a conversion of the same bytes, with the same answer,
-- unless a call failed.
pub record AsideIsRun : Type 0 where
  pub at_none : (conversion : Conversion) (bytes rest : List ℕ) (before now : Outputs) (answer : Result Tally AsideFault)
      → RanAside conversion 0 answer bytes rest before now → is_device_fault answer ≡ false → IsConversion conversion bytes rest before now answer
  pub of_none : (conversion : Conversion) (most : ℕ) (bytes rest : List ℕ) (before now : Outputs) (answer : Result Tally AsideFault)
      → RanAside conversion most answer bytes rest before now → RejectsNone answer → IsConversion conversion bytes rest before now answer
  pub of_unnoted : (conversion : Conversion) (most : ℕ) (bytes rest : List ℕ) (before now : Outputs) (answer : Result Tally AsideFault) (notes : List RunFault)
      → RanAside conversion most answer bytes rest before now → before.notes ≡ Some notes → now.notes ≡ Some notes → is_device_fault answer ≡ false
      → IsConversion conversion bytes rest before now answer

-- A record that was rejected and set aside is rejected again where it stands first, for the same reason: nothing is written, and what stands behind
-- it isn't read.
abbrev pub RejectedAgain : Type 0
RejectedAgain = (conversion : Conversion) (input more : List ℕ) (why : Reason)
    → IsRecord conversion.in_form (in_length conversion) input → HasRoomAlone conversion.in_form input
    → IsRejected conversion input why → Converted conversion (framed_alone conversion.in_form input ++ more) more [] (Err (fault_at 1 why 0))
