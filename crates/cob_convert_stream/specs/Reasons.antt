-- Where in a record a run stops, and why; and which end failed there.
use Rattle.std.specs.Prelude.{ℕ, Bool, false, Option, Ok, Err, Result}
use Rattle.cob_records.specs.declared.records.RecordFault.{RecordFault}
use Rattle.cob_records.specs.declared.records.RecordFault.TheVariants.{Length}
use Rattle.cob_records.specs.Frame.{is_read_failure, is_write_error, is_write_fault}
use Rattle.cob_move_data.specs.declared.operands.Side.TheVariants.{In, Out}
use Rattle.cob_convert_stream.specs.declared.fault.Cause.{Cause}
use Rattle.cob_convert_stream.specs.declared.fault.Cause.TheVariants.{Count, Record}
use Rattle.cob_convert_stream.specs.declared.fault.Reason.{Reason}
use Rattle.cob_convert_stream.specs.declared.fault.RunFault.{RunFault}
use Rattle.cob_convert_stream.specs.declared.misfit.MeasureFault.{MeasureFault}
use Rattle.cob_convert_stream.specs.declared.misfit.MeasureFault.TheVariants.{Count as Uncounted, Length as Unfitting}

-- the cause is that a read failed
abbrev pub is_read_cause : Cause → Bool
is_read_cause (Record fault) = is_read_failure (Err fault)
is_read_cause _ = false

-- the cause is that a write failed or took nothing
abbrev pub is_write_cause : Cause → Bool
is_write_cause (Record fault) = is_write_fault fault
is_write_cause _ = false

-- the cause is that a write failed, and not that one took nothing
abbrev pub is_error_cause : Cause → Bool
is_error_cause (Record fault) = is_write_error (Err fault)
is_error_cause _ = false

-- the reason that a fault tells
abbrev pub reason_of : RunFault → Reason
reason_of fault = record { side = fault.side; offset = fault.offset; cause = fault.cause }

-- the fault of a record for this reason, where so many bytes were written
abbrev pub fault_at : ℕ → Reason → ℕ → RunFault
fault_at number why written = record { number = number; side = why.side; offset = why.offset; cause = why.cause; written = written }

-- the reason of a frame that can't be read
abbrev pub frame_reason : RecordFault → Reason
frame_reason fault = record { side = In; offset = 0; cause = Record fault }

-- the reason of a write that failed
abbrev pub write_reason : RecordFault → Reason
write_reason fault = record { side = Out; offset = 0; cause = Record fault }

-- the cause of a misfit: its count, or its length as a fault of the record
abbrev pub refusal_from : MeasureFault → Cause
refusal_from (Uncounted offset) = Count
refusal_from Unfitting = Record Length

-- where a misfit stands in its record: at its count, or at the front
abbrev pub offset_from : MeasureFault → ℕ
offset_from (Uncounted offset) = offset
offset_from Unfitting = 0

-- the reason of a record that isn't one of its layout
abbrev pub misfit_reason : MeasureFault → Reason
misfit_reason why = record { side = In; offset = offset_from why; cause = refusal_from why }

-- the next record is refused, for a cause of this kind
abbrev pub is_refused_for : (Cause → Bool) → Result (Option ℕ) Reason → Bool
is_refused_for is (Ok found) = false
is_refused_for is (Err why) = is why.cause
