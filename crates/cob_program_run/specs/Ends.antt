-- Which faults a run can have.
use Rattle.std.specs.Prelude.{◌≡◌, ◌⊎◌, ◌<◌, Bool, true, ⊤}
use Rattle.cob_program_faults.specs.declared.fault.CommandFault.{CommandFault}
use Rattle.cob_program_faults.specs.declared.fault.CommandFault.TheVariants as fault

-- A run is not done: a record or a device stopped it, or its last bytes were not handed to the device, and then a record is not written whole, or
-- there was none.
abbrev pub StopsRun : CommandFault → Type 0
StopsRun (fault.Stopped stopped) = ⊤
StopsRun (fault.Unflushed last) = 0 < last
StopsRun fault.Unprinted = ⊤
StopsRun other = ⊥

-- A rejected record is not set aside, or the last bytes of the rejected ones were not handed to their device, and then one is not there whole.
abbrev pub LacksRejected : CommandFault → Type 0
LacksRejected (fault.NotSetAside number cause) = ⊤
LacksRejected (fault.UnflushedAside last) = 0 < last
LacksRejected other = ⊥

-- A run that sets rejected records aside is not done: as any run, or rejected records are not there.
abbrev pub StopsRunAside : CommandFault → Type 0
StopsRunAside told = StopsRun told ⊎ LacksRejected told

-- The output of a run is not there: the run is not done, or, where an output that is there is kept until all is done, the new one was not renamed.
abbrev pub LacksOutput : Bool → CommandFault → Type 0
LacksOutput atomic told = StopsRun told ⊎ ((atomic ≡ true) × (told ≡ fault.NotRenamed))

-- An output of a run that sets rejected records aside is not there: it is not done, or, where outputs are kept until all is done, one of the new ones was
-- not renamed.
abbrev pub LacksOutputs : Bool → CommandFault → Type 0
LacksOutputs atomic told = StopsRunAside told ⊎ ((atomic ≡ true) × ((told ≡ fault.NotRenamed) ⊎ (told ≡ fault.NotRenamedAside)))
