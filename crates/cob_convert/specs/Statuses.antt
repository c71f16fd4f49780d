-- How a program ends: the status by what stopped a run, by what refused a conversion, and by whether its last line was printed.
use Rattle.std.specs.Prelude.{ℕ, Result, Ok, Err, ⊤}
use Rattle.cob_records.specs.declared.records.RecordFault.TheVariants.{ReadFailed, WriteFailed, TookNothing}
use Rattle.cob_convert_stream.specs.declared.fault.Cause.{Cause}
use Rattle.cob_convert_stream.specs.declared.fault.Cause.TheVariants as cause
use Rattle.cob_convert.specs.declared.fault.PrepareFault.{PrepareFault}
use Rattle.cob_convert.specs.declared.fault.PrepareFault.TheVariants as prepare
use Rattle.cob_convert.specs.declared.status.Status.{Status}
use Rattle.cob_convert.specs.declared.status.Status.TheVariants as status

-- the number of a status, which the system gets
abbrev pub code_of : Status → ℕ
code_of status.Done = 0
code_of status.Stopped = 1
code_of status.Malformed = 2
code_of status.Refused = 3
code_of status.Device = 4
code_of status.Memory = 5

-- a read or a write that failed is a device's, all else that stops a run is a record's
abbrev pub status_of_stop : Cause → Status
status_of_stop (cause.Record ReadFailed) = status.Device
status_of_stop (cause.Record (WriteFailed taken)) = status.Device
status_of_stop (cause.Record (TookNothing taken)) = status.Device
status_of_stop stopped = status.Stopped

-- a text that is refused is told as that; blocks of the output without room are a fault of the job
abbrev pub status_of_prepare_fault : PrepareFault → Status
status_of_prepare_fault (prepare.Block least) = status.Malformed
status_of_prepare_fault refused = status.Refused

-- the status where a line was put, or was not: a line that is not printed is a device's failure, whatever it tells
abbrev pub printed_status : {E : Type 0} → Result ⊤ E → Status → Status
printed_status (Ok printed) told = told
printed_status (Err failed) told = status.Device
