-- How a command ends: by what it came to, and whether its last line could be printed.
use Rattle.std.specs.Prelude.{◌≡◌, ◌⊎◌, Result, Ok, Err}
use Rattle.cob_convert.specs.declared.status.Status.{Status}
use Rattle.cob_convert.specs.declared.status.Status.TheVariants as status
use Rattle.cob_program_faults.specs.Done.{status_of_done}
use Rattle.cob_program_faults.specs.Faults.{status_of}
use Rattle.cob_program_faults.specs.Texts.{StopsAtRecord}
use Rattle.cob_program_faults.specs.declared.done.CommandDone.{CommandDone}
use Rattle.cob_program_faults.specs.declared.fault.CommandFault.{CommandFault}

-- What is to end with a status ends with it, or with that of a device where its last line could not be printed.
abbrev pub EndsAs : Status → Status → Type 0
EndsAs told end = (end ≡ told) ⊎ (end ≡ status.Device)

-- the status of what a command came to: all is done, or its fault's
abbrev pub status_of_outcome : {T : Type 0} → Result T CommandFault → Status
status_of_outcome (Ok value) = status.Done
status_of_outcome (Err fault) = status_of fault

-- the status of what a conversion came to: that of what it did, or its fault's
abbrev pub status_of_conversion : Result CommandDone CommandFault → Status
status_of_conversion (Ok done) = status_of_done done
status_of_conversion (Err fault) = status_of fault

-- A command that may have these faults ends so: all is done, or it has one of them.
pub data EndsAmong (may : CommandFault → Type 0) (end : Status) : Type 0 where
  AllDone : EndsAs status.Done end → EndsAmong may end
  HasFault : (fault : CommandFault) → may fault → EndsAs (status_of fault) end → EndsAmong may end

-- A conversion that sets rejected records aside ends as others do that may have its faults; or, where it set some aside, as one that a record stopped.
abbrev pub EndsAside : (CommandFault → Type 0) → Status → Type 0
EndsAside may end = EndsAmong may end ⊎ EndsAs status.Stopped end

-- A command that shows a record of a conversion ends as others do that may have its faults, or as a malformed command line, which names a record that is not
-- there.
abbrev pub EndsAtRecord : Status → Type 0
EndsAtRecord end = EndsAmong StopsAtRecord end ⊎ EndsAs status.Malformed end
