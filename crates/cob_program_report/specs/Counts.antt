-- What a report tells of a run: the counts of its answer.
use Rattle.std.specs.Prelude.{◌≡◌, Option, None, Some, Result, Ok, Err}
use Rattle.cob_program_faults.specs.declared.done.CommandDone.{CommandDone}
use Rattle.cob_program_faults.specs.declared.done.CommandDone.TheVariants as done
use Rattle.cob_program_faults.specs.declared.fault.CommandFault.{CommandFault}
use Rattle.cob_report_run.specs.declared.report.RunCounts.{RunCounts}

-- how many records were converted and set aside, by what a conversion is done with
abbrev pub counts_of_done : CommandDone → RunCounts
counts_of_done (done.Converted records) = record { converted = records; set_aside = 0 }
counts_of_done (done.SetAside converted rejected) = record { converted = converted; set_aside = rejected }

-- the counts that are told of what a conversion came to: those of a run that is done
abbrev pub counts_of : Result CommandDone CommandFault → Option RunCounts
counts_of (Ok done) = Some (counts_of_done done)
counts_of (Err fault) = None
