-- How a comparison ends.
use Rattle.std.specs.Prelude.{Result, Ok, Err, if◌then◌else◌}
use Rattle.cob_convert.specs.Statuses.{status_of_stop}
use Rattle.cob_convert.specs.declared.status.Status.{Status}
use Rattle.cob_convert.specs.declared.status.Status.TheVariants as status
use Rattle.cob_convert_stream.specs.declared.fault.Cause.{Cause}
use Rattle.cob_convert_stream.specs.declared.fault.Cause.TheVariants as cause
use Rattle.cob_records.specs.declared.device.DeviceFault.{DeviceFault}
use Rattle.cob_records.specs.declared.records.RecordFault.TheVariants.{WriteFailed, TookNothing}
use Rattle.cob_program_faults.specs.Ends.{EndsAs}
use Rattle.cob_program_faults.specs.declared.fault.CommandFault.TheVariants as command
use Rattle.cob_program_faults.specs.Faults.{status_of}
use Rattle.cob_report_compare.specs.declared.counted.PairCounts.{PairCounts}
use Rattle.cob_report_compare.specs.declared.files.CompareStop.{CompareStop}
use Rattle.cob_report_compare.specs.declared.files.StopReason.{StopReason}
use Rattle.cob_report_compare.specs.declared.files.StopReason.TheVariants.{Record, NoNumber, Order}
use Rattle.cob_report_compare.specs.declared.runs.CompareFault.{CompareFault}
use Rattle.cob_report_compare.specs.declared.runs.CompareFault.TheVariants as compared
use Rattle.cob_report_compare.specs.Merged.{are_equal}
use Rattle.cob_program_compare.specs.declared.fault.ComparisonFault.{ComparisonFault}
use Rattle.cob_program_compare.specs.declared.fault.ComparisonFault.TheVariants as fault

-- what the record that stops a comparison is for the command: a line that is not printed is told by no other
abbrev pub stop_by : Cause → CompareStop → ComparisonFault
stop_by (cause.Record (WriteFailed taken)) stop = fault.Command command.Unprinted
stop_by (cause.Record (TookNothing taken)) stop = fault.Command command.Unprinted
stop_by other stop = fault.Stopped stop

-- and for whatever reason
abbrev pub stop_for : StopReason → CompareStop → ComparisonFault
stop_for (Record why) stop = stop_by why.cause stop
stop_for (NoNumber offset) stop = fault.Stopped stop
stop_for (Order offset) stop = fault.Stopped stop

-- what the fault of a comparison is for the command
abbrev pub comparison_fault : CompareFault → ComparisonFault
comparison_fault compared.Memory = fault.Command command.Memory
comparison_fault (compared.Stop stop) = stop_for stop.reason stop
comparison_fault compared.Uncounted = fault.Command command.Unprinted

-- what a comparison comes to: where its lines were not handed over, one was not printed, whatever stopped it
abbrev pub comparison_outcome : Result (Result PairCounts CompareFault) DeviceFault → Result PairCounts ComparisonFault
comparison_outcome (Ok (Ok counts)) = Ok counts
comparison_outcome (Ok (Err stopped)) = Err (comparison_fault stopped)
comparison_outcome (Err failed) = Err (fault.Command command.Unprinted)

-- the status of a record that stops a comparison: of one that cannot be read as where it stops a conversion
abbrev pub status_of_reason : StopReason → Status
status_of_reason (Record why) = status_of_stop why.cause
status_of_reason (NoNumber offset) = status.Stopped
status_of_reason (Order offset) = status.Stopped

-- the status of a fault
abbrev pub status_of_comparison_fault : ComparisonFault → Status
status_of_comparison_fault (fault.Command told) = status_of told
status_of_comparison_fault fault.OneStream = status.Malformed
status_of_comparison_fault (fault.CannotOpen side) = status.Device
status_of_comparison_fault (fault.Key rule) = status.Refused
status_of_comparison_fault (fault.Ignore rule) = status.Refused
status_of_comparison_fault (fault.Stopped stop) = status_of_reason stop.reason

-- the status of what a comparison came to: done where all are equal, and else as where a record stops a run
abbrev pub status_of_comparison : Result PairCounts ComparisonFault → Status
status_of_comparison (Ok counts) = if are_equal counts then status.Done else status.Stopped
status_of_comparison (Err told) = status_of_comparison_fault told

-- A comparison came to something, and ends with its status, or as where a device failed if its last line could not be printed.
abbrev pub EndsCompare : Status → Type 0
EndsCompare end = (outcome : Result PairCounts ComparisonFault) × EndsAs (status_of_comparison outcome) end
