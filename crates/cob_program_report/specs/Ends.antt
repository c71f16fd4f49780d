-- How a conversion ends that is reported.
use Rattle.std.specs.Prelude.{◌≡◌, ◌⊎◌, Bool, IfErr, IfOk, Option, None, Some, Result}
use Rattle.cob_convert.specs.declared.status.Status.{Status}
use Rattle.cob_convert.specs.declared.status.Status.TheVariants as status
use Rattle.cob_program_faults.specs.Done.{status_of_done}
use Rattle.cob_program_faults.specs.Ends.{EndsAmong, EndsAs, EndsAside}
use Rattle.cob_program_faults.specs.declared.done.CommandDone.{CommandDone}
use Rattle.cob_program_faults.specs.declared.fault.CommandFault.{CommandFault}
use Rattle.cob_program_convert.specs.Ends.{MayEndAside, MayEndConvert}
use Rattle.cob_program_report.specs.declared.made.ReportFault.{ReportFault}
use Rattle.cob_program_report.specs.declared.made.ReportFault.TheVariants as fault

-- how a conversion ends, by whether rejected records are set aside in a file
abbrev pub EndsConvert : {A : Type 0} → Option A → Bool → Status → Type 0
EndsConvert None atomic end = EndsAmong (MayEndConvert atomic) end
EndsConvert (Some rejects) atomic end = EndsAside (MayEndAside atomic) end

-- the status of the fault of a report: one that would be another file is a malformed command line
abbrev pub status_of_report : ReportFault → Status
status_of_report (fault.OneFile name) = status.Malformed
status_of_report fault.NotMade = status.Device
status_of_report fault.NotWritten = status.Device
status_of_report fault.Memory = status.Memory

-- the report is at fault, for this reason
abbrev pub LacksReport : Status → Type 0
LacksReport end = (why : ReportFault) × EndsAs (status_of_report why) end

-- A conversion that is reported ends as it ends without a report, or as one whose report is at fault.
abbrev pub EndsReported : Type 0 → Status → Type 0
EndsReported plain end = plain ⊎ LacksReport end

-- what a conversion may come to, by whether rejected records are set aside: it has its faults alone, and sets none aside where it has no file for them
abbrev pub CameTo : {A : Type 0} → Option A → Bool → Result CommandDone CommandFault → Type 0
CameTo None atomic outcome = IfErr outcome (MayEndConvert atomic) × IfOk outcome (λ done. status_of_done done ≡ status.Done)
CameTo (Some rejects) atomic outcome = IfErr outcome (MayEndAside atomic)
