-- What a command is told to come to that is not done, and the status of that.
use Rattle.cob_convert.specs.declared.aside.AsideFault.{AsideFault}
use Rattle.cob_convert.specs.declared.aside.AsideFault.TheVariants as aside
use Rattle.cob_convert.specs.declared.fault.PrepareFault.{PrepareFault}
use Rattle.cob_convert.specs.declared.fault.PrepareFault.TheVariants as prepare
use Rattle.cob_convert.specs.Statuses.{status_of_prepare_fault, status_of_stop}
use Rattle.cob_convert.specs.declared.status.Status.{Status}
use Rattle.cob_convert.specs.declared.status.Status.TheVariants as status
use Rattle.cob_convert_stream.specs.declared.fault.Cause.{Cause}
use Rattle.cob_convert_stream.specs.declared.fault.Cause.TheVariants as cause
use Rattle.cob_convert_stream.specs.declared.fault.RunFault.{RunFault}
use Rattle.cob_report_show.specs.declared.records.ShowFault.{ShowFault}
use Rattle.cob_report_show.specs.declared.records.ShowFault.TheVariants as listing
use Rattle.cob_copybook_entry.specs.declared.fault.BookFault.{BookFault}
use Rattle.cob_copybook_entry.specs.declared.fault.BookRule.{BookRule}
use Rattle.cob_copybook_entry.specs.declared.fault.BookRule.TheVariants as rule
use Rattle.cob_program_faults.specs.declared.whole_text.TextFault.{TextFault}
use Rattle.cob_program_faults.specs.declared.whole_text.TextFault.TheVariants as text
use Rattle.cob_records.specs.declared.files.OpenFault.{OpenFault}
use Rattle.cob_records.specs.declared.files.OpenFault.TheVariants as opening
use Rattle.cob_records.specs.declared.records.RecordFault.TheVariants.{WriteFailed, TookNothing}
use Rattle.cob_program_faults.specs.declared.fault.FileName.{FileName}
use Rattle.cob_program_faults.specs.declared.fault.CommandFault.{CommandFault}
use Rattle.cob_program_faults.specs.declared.fault.CommandFault.TheVariants as fault

-- what the refusal of a text is for a command: want of memory is told as that, and never as a fault of a text
abbrev pub refused_text : PrepareFault → CommandFault
refused_text prepare.Memory = fault.Memory
refused_text refused = fault.Refused refused

-- what is told of a text that was not read, by the option that names its file
abbrev pub unread_text : TextFault → FileName → CommandFault
unread_text text.NotOpened name = fault.CannotOpen name
unread_text text.NotRead name = fault.CannotRead name
unread_text text.Memory name = fault.Memory

-- what is told of a file that was not opened or not made, by the option that names it
abbrev pub unopened_file : OpenFault → FileName → CommandFault
unopened_file opening.NotOpened name = fault.CannotOpen name
unopened_file opening.Memory name = fault.Memory

-- what the refusal of a listing's copybook is for a command: want of memory is told as that
abbrev pub book_fault_by : BookRule → BookFault → CommandFault
book_fault_by rule.Memory refused = fault.Memory
book_fault_by broken refused = fault.Book refused

-- what the refusal of a listing's copybook is for a command
abbrev pub refused_book : BookFault → CommandFault
refused_book refused = book_fault_by refused.rule refused

-- what stops a listing of records is for a command: a line that is not written is told by no other
abbrev pub show_fault_by : Cause → RunFault → CommandFault
show_fault_by (cause.Record (WriteFailed taken)) stopped = fault.Unprinted
show_fault_by (cause.Record (TookNothing taken)) stopped = fault.Unprinted
show_fault_by stop stopped = fault.Stopped stopped

-- what a stopped listing of records is for a command
abbrev pub show_fault : ShowFault → CommandFault
show_fault listing.Memory = fault.Memory
show_fault (listing.Run stopped) = show_fault_by stopped.cause stopped

-- what a stopped run is for a command that sets rejected records aside
abbrev pub aside_fault : AsideFault → CommandFault
aside_fault (aside.Stopped stopped) = fault.Stopped stopped
aside_fault (aside.NotSetAside number cause written) = fault.NotSetAside number cause

-- The status of each fault: a file that is not opened or not read is a device's.
abbrev pub status_of : CommandFault → Status
status_of (fault.CannotOpen name) = status.Device
status_of (fault.CannotRead name) = status.Device
status_of (fault.Refused refused) = status_of_prepare_fault refused
status_of (fault.Stopped stopped) = status_of_stop stopped.cause
status_of (fault.Paragraph name refused) = status.Refused
status_of (fault.Book refused) = status.Refused
status_of (fault.OtherLength option least lrecl) = status.Refused
status_of (fault.OneFile name) = status.Malformed
status_of (fault.OneFileAside name) = status.Malformed
status_of (fault.Unflushed last) = status.Device
status_of (fault.NotSetAside number cause) = status.Device
status_of (fault.UnflushedAside last) = status.Device
status_of fault.NotRenamed = status.Device
status_of fault.NotRenamedAside = status.Device
status_of fault.Unprinted = status.Device
status_of fault.Memory = status.Memory
