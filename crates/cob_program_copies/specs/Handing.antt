-- What a command comes to whose copybooks are not handed over.
use Rattle.std.specs.Prelude.{◌⊎◌, ⊤}
use Rattle.cob_convert.specs.declared.status.Status.{Status}
use Rattle.cob_convert.specs.declared.status.Status.TheVariants as status
use Rattle.cob_program_copies.specs.declared.fault.BookRefusal.{BookRefusal}
use Rattle.cob_program_copies.specs.declared.fault.BookRefusal.TheVariants as refusal
use Rattle.cob_program_copies.specs.declared.fault.HandingFault.{HandingFault}
use Rattle.cob_program_copies.specs.declared.fault.HandingFault.TheVariants as fault
use Rattle.cob_program_faults.specs.Faults.{status_of}
use Rattle.cob_program_faults.specs.Texts.{LacksText}
use Rattle.cob_program_faults.specs.declared.fault.FileName.TheVariants as name
use Rattle.cob_program_line.specs.declared.line.Line.{Line}
use Rattle.cob_program_line.specs.declared.line.Line.TheVariants as line

-- the command of the line reads copybooks
abbrev pub HasBooks : Line → Type 0
HasBooks line.Job = ⊥
HasBooks line.Completion = ⊥
HasBooks line.Manual = ⊥
HasBooks said = ⊤

-- The copybooks of a command are not handed over: the file of one was not read; or one that was read is refused, or a text that it copies is or was not read.
abbrev pub LacksHanding : HandingFault → Type 0
LacksHanding (fault.File told) = LacksText name.InBook told ⊎ LacksText name.OutBook told ⊎ LacksText name.Book told
LacksHanding (fault.Book refusal) = ⊤

-- with which status the command ends where a copybook that was read is not handed over
abbrev pub status_of_unhanded : BookRefusal → Status
status_of_unhanded (refusal.Refused words) = status.Refused
status_of_unhanded (refusal.NotRead words) = status.Device
status_of_unhanded (refusal.OneFile option lost) = status.Malformed
status_of_unhanded refusal.BadReplace = status.Malformed
status_of_unhanded refusal.BadTabs = status.Malformed
status_of_unhanded refusal.BadRecordsAs = status.Malformed
status_of_unhanded refusal.Memory = status.Memory

-- with which status the command ends whose copybooks are not handed over
abbrev pub status_of_handing : HandingFault → Status
status_of_handing (fault.File told) = status_of told
status_of_handing (fault.Book why) = status_of_unhanded why
