-- With which status a command ends that converts and is done.
use Rattle.std.specs.Prelude.{◌==◌, if◌then◌else◌}
use Rattle.cob_convert.specs.declared.status.Status.{Status}
use Rattle.cob_convert.specs.declared.status.Status.TheVariants as status
use Rattle.cob_program_faults.specs.declared.done.CommandDone.{CommandDone}
use Rattle.cob_program_faults.specs.declared.done.CommandDone.TheVariants as done

-- The status of what a command came to that converts and is done: where it rejected records, that of a run that one stopped.
abbrev pub status_of_done : CommandDone → Status
status_of_done (done.Converted records) = status.Done
status_of_done (done.SetAside converted rejected) = if rejected == 0 then status.Done else status.Stopped
