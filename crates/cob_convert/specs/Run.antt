-- A whole run: the records that came, what they became, and how the run ended.
use Rattle.std.specs.Prelude.{◌≡◌, ℕ, ◌+◌, ◌-◌, ◌^◌, ◌<◌, Bool, true, false, min, List, [], ◌++◌, ◌⊎◌, length, map, Option, None, Some, Ok, Err, Result}
use Rattle.std.specs.List.{AllByRecursion}
use Rattle.std.specs.Io.KnownBytes.{append_known}
use Rattle.cob_records.specs.Device.{counted, greatest_count}
use Rattle.cob_records.specs.declared.outlet.Outlet.{Outlet}
use Rattle.cob_records.specs.declared.records.Form.{Form}
use Rattle.cob_records.specs.declared.records.RecordFault.{RecordFault}
use Rattle.cob_records.specs.Forms.{Come, ComesFirst, ReadsInForm, records_held, outlet_of, pending_in, outlet_with_all, written_by, written_by_all, written_of}
use Rattle.cob_records.specs.Frame.{IsRecord, Puts, is_unblocked}
use Rattle.cob_convert_record.specs.Conversion.{Conversion, in_length}
use Rattle.cob_move_apply.specs.declared.stop.Stop.{Stop}
use Rattle.cob_move_data.specs.declared.operands.Side.TheVariants.{In}
use Rattle.cob_convert_stream.specs.declared.fault.Cause.TheVariants.{Limit}
use Rattle.cob_convert_stream.specs.declared.fault.Reason.{Reason}
use Rattle.cob_convert_stream.specs.declared.fault.RunFault.{RunFault}
use Rattle.cob_convert_stream.specs.Reasons.{frame_reason, is_error_cause, is_read_cause, is_write_cause, misfit_reason, reason_of, write_reason}
use Rattle.cob_convert_stream.specs.declared.misfit.MeasureFault.{MeasureFault}
use Rattle.cob_convert_stream.specs.Input.{Remains, records_in}
use Rattle.cob_convert_stream.specs.Sizes.{IsSized, IsMeasureFault}
use Rattle.cob_convert_record.specs.Becoming.{Becomes, StopsAt}
use Rattle.cob_convert_record.specs.Reasons.{stop_reason}

-- a record that came, and what it became
pub record IsConverted (conversion : Conversion) (pair : List ℕ × List ℕ) : Type 0 where
  pub whole : IsRecord conversion.in_form (in_length conversion) pair.0
  pub sized : IsSized conversion.in_form conversion.records.input pair.0
  pub converts : Becomes conversion pair.0 pair.1

-- what they became
abbrev pub records_out : List (List ℕ × List ℕ) → List (List ℕ)
records_out pairs = map (λ (pair : List ℕ × List ℕ). pair.1) pairs

-- the outlet, to which went what they became: in form b it holds the open block
abbrev pub outlet_behind : Conversion → List (List ℕ × List ℕ) → Outlet
outlet_behind conversion pairs = outlet_with_all (outlet_of conversion.out_form) (records_out pairs)

-- how many records a run converts at most
abbrev pub most_records : ℕ
most_records = 2 ^ 64 - 2

-- the reason where as many records were converted as a run converts at most
abbrev pub limit_reason : Reason
limit_reason = record { side = In; offset = 0; cause = Limit }

-- a whole frame was left first, and just this was read
pub record Came (conversion : Conversion) (input : List ℕ) (at : Remains) : Type 0 where
  pub whole : IsRecord conversion.in_form (in_length conversion) input
  pub after : ℕ
  pub frame : ComesFirst conversion.in_form at.opened input at.left after at.rest

-- as many records as a run converts at most were converted, and nothing behind them was read
pub record LimitStops (n : ℕ) (at : Remains) (why : Reason) : Type 0 where
  pub limit : n ≡ most_records
  pub unread : at.rest ≡ at.left
  pub reason : why ≡ limit_reason

-- the next frame couldn't be read
pub record ReadStops (conversion : Conversion) (at : Remains) (why : Reason) : Type 0 where
  pub fault : RecordFault
  pub after : ℕ
  pub reads : ReadsInForm conversion.in_form (in_length conversion) at.opened [] (Err fault) after at.left at.rest
  pub reason : why ≡ frame_reason fault

-- a record came whole, and it isn't one of its layout
pub record LayoutStops (conversion : Conversion) (at : Remains) (why : Reason) : Type 0 where
  pub input : List ℕ
  pub misfit : MeasureFault
  pub came : Came conversion input at
  pub misfits : IsMeasureFault conversion.in_form conversion.records.input input misfit
  pub reason : why ≡ misfit_reason misfit

-- a record of its layout came whole, and its conversion stopped
pub record ConversionStops (conversion : Conversion) (at : Remains) (why : Reason) : Type 0 where
  pub input : List ℕ
  pub stop : Stop
  pub came : Came conversion input at
  pub sized : IsSized conversion.in_form conversion.records.input input
  pub stops : StopsAt conversion input stop
  pub reason : why ≡ stop_reason stop

-- why the next record stops a run: its frame, its layout or its conversion
pub data RecordStops (conversion : Conversion) (at : Remains) (why : Reason) : Type 0 where
  InRead : ReadStops conversion at why → RecordStops conversion at why
  InLayout : LayoutStops conversion at why → RecordStops conversion at why
  InConversion : ConversionStops conversion at why → RecordStops conversion at why

-- why a run stops behind n records: for their number, or for the next record
abbrev pub StopsFor : Conversion → ℕ → Remains → Reason → Type 0
StopsFor conversion n at why = LimitStops n at why ⊎ ((n < most_records) × RecordStops conversion at why)

-- the input ends behind n records: no byte was left, and no block was open
pub record InputEnds (n : ℕ) (at : Remains) : Type 0 where
  pub below : n < most_records
  pub closed : at.opened ≡ 0
  pub none : at.left ≡ []
  pub rest : at.rest ≡ []

-- a run is over behind n records: at the end of the input, or for this reason
abbrev pub IsOver : Conversion → ℕ → Remains → Option Reason → Type 0
IsOver conversion n at None = InputEnds n at
IsOver conversion n at (Some why) = StopsFor conversion n at why

-- What was to be written where a write failed: what one more record wrote, which came whole and was converted; or, where the run was over, what the
-- outlet held back.
pub data IsToWrite (conversion : Conversion) (pairs : List (List ℕ × List ℕ)) (at : Remains) (bytes : List ℕ) : Type 0 where
  ByRecord : (input written : List ℕ) → length pairs < most_records → Came conversion input at → IsConverted conversion (input, written)
      → bytes ≡ written_by (outlet_behind conversion pairs) written → IsToWrite conversion pairs at bytes
  ByEnd : (why : Option Reason) → IsOver conversion (length pairs) at why → bytes ≡ pending_in (outlet_behind conversion pairs)
      → IsToWrite conversion pairs at bytes

-- A write failed: of what was to be written a part went out, behind what these records had written before. The fault names the first record of it:
-- in forms f and v the one behind these, in form b the first in the block.
pub record WriteStops (conversion : Conversion) (pairs : List (List ℕ × List ℕ)) (at : Remains) (sent part : List ℕ) (number : ℕ)
    (why : Reason) : Type 0 where
  pub fault : RecordFault
  pub bytes : List ℕ
  pub to_write : IsToWrite conversion pairs at bytes
  pub puts : Puts bytes (Err fault) part
  pub before : sent ≡ written_by_all (outlet_of conversion.out_form) (records_out pairs)
  pub first : number + records_held (outlet_behind conversion pairs) ≡ length pairs + 1
  pub reason : why ≡ write_reason fault

-- these records stop a run behind them, and all that they became is written
pub record StopsBehind (conversion : Conversion) (pairs : List (List ℕ × List ℕ)) (at : Remains) (sent part : List ℕ) (number : ℕ)
    (why : Reason) : Type 0 where
  pub stops : StopsFor conversion (length pairs) at why
  pub next : number ≡ length pairs + 1
  pub all : sent ≡ written_of conversion.out_form (records_out pairs)
  pub nothing : part ≡ []

-- a run ends behind these records: no byte was left, and all that they became is written
pub record EndsClean (conversion : Conversion) (pairs : List (List ℕ × List ℕ)) (at : Remains) (sent part : List ℕ) (number : ℕ) : Type 0 where
  pub count : number ≡ length pairs
  pub input : InputEnds (length pairs) at
  pub all : sent ≡ written_of conversion.out_form (records_out pairs)
  pub nothing : part ≡ []

-- a run stops behind these records, for the next one or for a write that failed
pub record EndsFaulty (conversion : Conversion) (pairs : List (List ℕ × List ℕ)) (at : Remains) (sent part : List ℕ) (fault : RunFault) : Type 0 where
  pub written : fault.written ≡ min (length sent + length part) greatest_count
  pub stops : StopsBehind conversion pairs at sent part fault.number (reason_of fault)
      ⊎ WriteStops conversion pairs at sent part fault.number (reason_of fault)

-- How a run ends behind these records, for which these bytes were written and a part of more: with the number of records where no byte was left, and
-- else with the fault.
abbrev pub Ends : Conversion → List (List ℕ × List ℕ) → Remains → (sent part : List ℕ) → Result ℕ RunFault → Type 0
Ends conversion pairs at sent part (Ok number) = EndsClean conversion pairs at sent part number
Ends conversion pairs at sent part (Err fault) = EndsFaulty conversion pairs at sent part fault

-- A run from these bytes, up to the rest, with this answer, by a sink that told `before` and tells `now`: the records that came,
-- what they became, and the end. The answer is said also where the sink does not tell its bytes.
pub record Ran (conversion : Conversion) (answer : Result ℕ RunFault) (bytes rest : List ℕ) (before now : Option (List ℕ)) : Type 0 where
  pub pairs : List (List ℕ × List ℕ)
  pub opened : ℕ
  pub left : List ℕ
  pub sent : List ℕ
  pub part : List ℕ
  pub come : Come conversion.in_form 0 (records_in pairs) bytes opened left
  pub each : AllByRecursion (IsConverted conversion) pairs
  pub output : now ≡ append_known before (sent ++ part)
  pub ends : Ends conversion pairs (record { opened = opened; left = left; rest = rest }) sent part answer

-- the answer is that a read failed
abbrev pub is_read_stop : Result ℕ RunFault → Bool
is_read_stop (Ok number) = false
is_read_stop (Err fault) = is_read_cause fault.cause

-- the answer is that a write failed or took nothing
abbrev pub is_write_stop : Result ℕ RunFault → Bool
is_write_stop (Ok number) = false
is_write_stop (Err fault) = is_write_cause fault.cause

-- the answer is that a write failed, and not that one took nothing
abbrev pub is_write_error_stop : Result ℕ RunFault → Bool
is_write_error_stop (Ok number) = false
is_write_error_stop (Err fault) = is_error_cause fault.cause

-- How often reads failed: once where that is the answer, and else never. In form b it may be once too where the answer is that a write failed, since
-- the open block is written before a failed read is answered.
abbrev pub CountsReads : Form → Result ℕ RunFault → ℕ → ℕ → Type 0
CountsReads form answer before now =
    (failed : Bool) × (now ≡ counted failed before) × ((is_unblocked form ≡ true) ⊎ (is_write_stop answer ≡ false) → failed ≡ is_read_stop answer)

-- ---- in two steps

-- What the call that writes what an outlet holds back answers, where a run is over behind n records, for which so many bytes were written.
abbrev pub Closes : Outlet → (n written : ℕ) → Option Reason → Result ℕ RunFault → List ℕ → Type 0
Closes o n written why (Ok number) part = (why ≡ None) × (number ≡ n) × (part ≡ pending_in o)
Closes o n written why (Err fault) part =
    (fault.written ≡ min (written + length part) greatest_count)
    × (((why ≡ Some (reason_of fault)) × (fault.number ≡ n + 1) × (part ≡ pending_in o))
    ⊎ ((cause : RecordFault) × (reason_of fault ≡ write_reason cause) × (fault.number + records_held o ≡ n + 1)
    × Puts (pending_in o) (Err cause) part))

-- why a run is over: a read failed
abbrev pub is_read_end : Option Reason → Bool
is_read_end None = false
is_read_end (Some why) = is_read_cause why.cause

-- why a run is over is no failed write
abbrev pub is_write_end : Option Reason → Bool
is_write_end None = false
is_write_end (Some why) = is_write_cause why.cause
