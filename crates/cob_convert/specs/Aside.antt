-- A whole run that sets rejected records aside: the records that came, what became of each, and how the run ended.
use Rattle.std.specs.Prelude.{◌≡◌, ℕ, ◌+◌, ◌-◌, ◌<◌, ◌≤◌, Bool, true, false, min, List, [], ◌∷◌, ◌++◌, ◌⊎◌, length, Option, Ok, Err, Result}
use Rattle.std.specs.List.{AllByRecursion}
use Rattle.std.specs.Io.KnownBytes.{append_known}
use Rattle.cob_records.specs.Alone.{framed_alone}
use Rattle.cob_records.specs.Device.{counted, greatest_count}
use Rattle.cob_records.specs.declared.outlet.Outlet.{Outlet}
use Rattle.cob_records.specs.declared.records.Form.{Form}
use Rattle.cob_records.specs.declared.records.RecordFault.{RecordFault}
use Rattle.cob_records.specs.Forms.{Come, records_held, pending_in, written_by, written_of}
use Rattle.cob_records.specs.Frame.{Puts, is_unblocked, is_write_error}
use Rattle.cob_convert_record.specs.Conversion.{Conversion}
use Rattle.cob_convert_stream.specs.declared.fault.Reason.{Reason}
use Rattle.cob_convert_stream.specs.declared.fault.RunFault.{RunFault}
use Rattle.cob_convert_stream.specs.Input.{Remains}
use Rattle.cob_convert_stream.specs.Reasons.{fault_at, is_error_cause, is_read_cause, is_write_cause, write_reason}
use Rattle.cob_convert.specs.declared.aside.AsideFault.{AsideFault}
use Rattle.cob_convert.specs.declared.aside.AsideFault.TheVariants as fault
use Rattle.cob_convert.specs.declared.aside.AsideOutcome.{AsideOutcome}
use Rattle.cob_convert.specs.declared.aside.AsideOutcome.TheVariants as ending
use Rattle.cob_convert.specs.declared.aside.Tally.{Tally}
use Rattle.cob_convert.specs.Run.{Came, InputEnds, IsConverted, LimitStops, ReadStops, limit_reason, most_records}
use Rattle.cob_convert.specs.Outcomes.{Became, IsRejected, HasItsOutcome, Outcome, append_notes, converted_of, inputs_of, notes_of, outlet_for, rejected_of, set_aside_of, written_behind}

-- how many of these records were converted, and how many rejected
abbrev pub tally_of : List (List ℕ × Outcome) → Tally
tally_of records = record { converted = length (converted_of records); rejected = length (rejected_of records) }

-- of n records so many were rejected, and the others converted
abbrev pub tally_for : (n rejected : ℕ) → Tally
tally_for n rejected = record { converted = n - rejected; rejected = rejected }

-- a record came whole and is rejected, behind as many rejected ones as may be
pub record RejectStops (conversion : Conversion) (most : ℕ) (records : List (List ℕ × Outcome)) (at : Remains) (why : Reason) : Type 0 where
  pub input : List ℕ
  pub came : Came conversion input at
  pub rejected : IsRejected conversion input why
  pub all : length (rejected_of records) ≡ most

-- why a run stops behind these records: for their number, for a frame that can't be read, or for a record that may not be set aside any more
abbrev pub StopsAside : Conversion → ℕ → List (List ℕ × Outcome) → Remains → Reason → Type 0
StopsAside conversion most records at why = LimitStops (length records) at why
    ⊎ ((length records < most_records) × (ReadStops conversion at why ⊎ RejectStops conversion most records at why))

-- a record came whole and is rejected, and it couldn't be set aside: of its frame a part went out
pub record SetAsideStops (conversion : Conversion) (most : ℕ) (records : List (List ℕ × Outcome)) (at : Remains) (part : List ℕ)
    (cause : RecordFault) : Type 0 where
  pub below : length records < most_records
  pub input : List ℕ
  pub why : Reason
  pub came : Came conversion input at
  pub rejected : IsRejected conversion input why
  pub few : length (rejected_of records) < most
  pub puts : Puts (framed_alone conversion.in_form input) (Err cause) part

-- A run is over behind these records, of a further one a part of its frame set aside: at the end of the input, for a reason of the next record, or
-- because it couldn't be set aside.
abbrev pub IsOverAside : Conversion → ℕ → List (List ℕ × Outcome) → Remains → List ℕ → AsideOutcome → Type 0
IsOverAside conversion most records at part ending.Done = InputEnds (length records) at × (part ≡ [])
IsOverAside conversion most records at part (ending.Stopped why) = StopsAside conversion most records at why × (part ≡ [])
IsOverAside conversion most records at part (ending.NotSetAside cause) = SetAsideStops conversion most records at part cause

-- what a run answers that is over for this behind n records, where so many bytes were written
abbrev pub answer_over : Tally → (n written : ℕ) → AsideOutcome → Result Tally AsideFault
answer_over tally n written ending.Done = Ok tally
answer_over tally n written (ending.Stopped why) = Err (fault.Stopped (fault_at (n + 1) why written))
answer_over tally n written (ending.NotSetAside cause) = Err (fault.NotSetAside (n + 1) cause written)

-- the first of these records was converted, if there is one
abbrev pub BeginsConverted : List (List ℕ × Outcome) → Type 0
BeginsConverted [] = Unit {0}
BeginsConverted (came ∷ records) = (written : List ℕ) × (came.1 ≡ Became written)

-- The number of the first record of which nothing is written yet: the first of those that the outlet holds; where it holds none, the next.
pub record IsFirstUnwritten (conversion : Conversion) (records : List (List ℕ × Outcome)) (number : ℕ) : Type 0 where
  pub front : List (List ℕ × Outcome)
  pub back : List (List ℕ × Outcome)
  pub all : records ≡ front ++ back
  pub held : length (converted_of back) ≡ records_held (outlet_for conversion records)
  pub begins : BeginsConverted back
  pub next : number ≡ length front + 1

-- What was to be written where a write failed, of a further record a part of its frame set aside: what one more record wrote, which came whole and
-- was converted; or, where the run was over, what the outlet held back.
pub data IsToWriteAside (conversion : Conversion) (most : ℕ) (records : List (List ℕ × Outcome)) (at : Remains) (part bytes : List ℕ) : Type 0 where
  ByRecord : (input written : List ℕ) → length records < most_records → Came conversion input at → IsConverted conversion (input, written)
      → part ≡ [] → bytes ≡ written_by (outlet_for conversion records) written → IsToWriteAside conversion most records at part bytes
  ByEnd : (why : AsideOutcome) → IsOverAside conversion most records at part why → bytes ≡ pending_in (outlet_for conversion records)
      → IsToWriteAside conversion most records at part bytes

-- how many bytes went out, up to the greatest count
abbrev pub count_of : List ℕ → ℕ
count_of bytes = min (length bytes) greatest_count

-- A run ends behind these records, and all that they became is written.
pub record EndsWritten (conversion : Conversion) (most : ℕ) (records : List (List ℕ × Outcome)) (at : Remains) (written aside_part : List ℕ)
    (answer : Result Tally AsideFault) : Type 0 where
  pub why : AsideOutcome
  pub over : IsOverAside conversion most records at aside_part why
  pub is : answer ≡ answer_over (tally_of records) (length records) (count_of written) why
  pub all : written ≡ written_of conversion.out_form (converted_of records)

-- A run ends behind these records, and of what was to be written a part went out, which is less: the fault names the first record of it.
pub record EndsUnwritten (conversion : Conversion) (most : ℕ) (records : List (List ℕ × Outcome)) (at : Remains) (written aside_part : List ℕ)
    (answer : Result Tally AsideFault) : Type 0 where
  pub cause : RecordFault
  pub bytes : List ℕ
  pub part : List ℕ
  pub number : ℕ
  pub to_write : IsToWriteAside conversion most records at aside_part bytes
  pub puts : Puts bytes (Err cause) part
  pub first : IsFirstUnwritten conversion records number
  pub is : answer ≡ Err (fault.Stopped (fault_at number (write_reason cause) (count_of written)))
  pub before : written ≡ written_behind conversion records ++ part

-- What the three ends of a run tell, where they do: the bytes that the sink took, those that the sink of rejected records took, and the notes.
pub record Outputs : Type 0 where
  pub sink : Option (List ℕ)
  pub aside : Option (List ℕ)
  pub notes : Option (List RunFault)

-- A run that sets rejected records aside, from these bytes, up to the rest, with this answer, by ends that told `before` and tell `now`: there are
-- records that came, each of which became something or was rejected. The bytes that came are their frames in order; what was written are the frames
-- of those that were converted; what was set aside are those of the others, as they came; the notes are their faults; and the answer counts both, or
-- says why the run stopped behind them.
pub record RanAside (conversion : Conversion) (most : ℕ) (answer : Result Tally AsideFault) (bytes rest : List ℕ)
    (before now : Outputs) : Type 0 where
  pub records : List (List ℕ × Outcome)
  pub opened : ℕ
  pub left : List ℕ
  pub written : List ℕ
  pub aside_part : List ℕ
  pub come : Come conversion.in_form 0 (inputs_of records) bytes opened left
  pub each : AllByRecursion (HasItsOutcome conversion) records
  pub within : length (rejected_of records) ≤ most
  pub output : now.sink ≡ append_known before.sink written
  pub aside : now.aside ≡ append_known before.aside (set_aside_of conversion.in_form records ++ aside_part)
  pub told : now.notes ≡ append_notes before.notes (notes_of conversion records)
  pub ends : EndsWritten conversion most records (record { opened = opened; left = left; rest = rest }) written aside_part answer
      ⊎ EndsUnwritten conversion most records (record { opened = opened; left = left; rest = rest }) written aside_part answer

-- the answer is that a read failed
abbrev pub is_read_fault : Result Tally AsideFault → Bool
is_read_fault (Err (fault.Stopped stop)) = is_read_cause stop.cause
is_read_fault _ = false

-- the answer is that a write of what records became failed or took nothing
abbrev pub is_sink_fault : Result Tally AsideFault → Bool
is_sink_fault (Err (fault.Stopped stop)) = is_write_cause stop.cause
is_sink_fault _ = false

-- the answer is that such a write failed, and not that it took nothing
abbrev pub is_sink_error : Result Tally AsideFault → Bool
is_sink_error (Err (fault.Stopped stop)) = is_error_cause stop.cause
is_sink_error _ = false

-- the answer is that a rejected record couldn't be set aside: a write failed or took nothing
abbrev pub is_aside_fault : Result Tally AsideFault → Bool
is_aside_fault (Err (fault.NotSetAside number cause written)) = true
is_aside_fault _ = false

-- the answer is that such a write failed, and not that it took nothing
abbrev pub is_aside_error : Result Tally AsideFault → Bool
is_aside_error (Err (fault.NotSetAside number cause written)) = is_write_error (Err cause)
is_aside_error _ = false

-- How often calls of an end failed: once where that is the answer, and else never. In form b it may be once too where the answer is that a write of
-- what records became failed, since the open block is written before another failure is answered.
abbrev pub CountsUnlessSink : Form → Result Tally AsideFault → (told : Bool) → ℕ → ℕ → Type 0
CountsUnlessSink form answer told before now =
    (failed : Bool) × (now ≡ counted failed before) × ((is_unblocked form ≡ true) ⊎ (is_sink_fault answer ≡ false) → failed ≡ told)

-- ---- in two steps

-- what the call that writes what an outlet holds back answers, where a run is over for this behind n records, for which so many bytes were written
pub data ClosesAside (o : Outlet) (tally : Tally) (n first written : ℕ) (why : AsideOutcome) (answer : Result Tally AsideFault)
    (part : List ℕ) : Type 0 where
  AllOut : part ≡ pending_in o → answer ≡ answer_over tally n (min (written + length part) greatest_count) why
      → ClosesAside o tally n first written why answer part
  PartOut : (cause : RecordFault) → Puts (pending_in o) (Err cause) part
      → answer ≡ Err (fault.Stopped (fault_at first (write_reason cause) (min (written + length part) greatest_count)))
      → ClosesAside o tally n first written why answer part

-- what that call answers where as many records came as a run takes, of which so many were rejected
abbrev pub ClosesAtLimit : Outlet → (rejected first written : ℕ) → Result Tally AsideFault → List ℕ → Type 0
ClosesAtLimit o rejected first written answer part =
    ClosesAside o (tally_for most_records rejected) most_records first written (ending.Stopped limit_reason) answer part

-- why a run is over: a read failed
abbrev pub is_read_ending : AsideOutcome → Bool
is_read_ending (ending.Stopped why) = is_read_cause why.cause
is_read_ending _ = false

-- why a run is over: a reason that is a failed write of what records became
abbrev pub is_sink_ending : AsideOutcome → Bool
is_sink_ending (ending.Stopped why) = is_write_cause why.cause
is_sink_ending _ = false

-- why a run is over: a rejected record couldn't be set aside
abbrev pub is_aside_ending : AsideOutcome → Bool
is_aside_ending (ending.NotSetAside cause) = true
is_aside_ending _ = false

-- why a run is over: a write of a rejected record failed, and not that it took nothing
abbrev pub is_aside_error_ending : AsideOutcome → Bool
is_aside_error_ending (ending.NotSetAside cause) = is_write_error (Err cause)
is_aside_error_ending _ = false
