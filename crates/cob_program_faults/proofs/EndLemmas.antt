-- How a command ends by the fault that its outcome has, if it has one.
use Rattle.std.proofs.Common.{◌≡◌, ◌==◌, Bool, true, false, Result, Ok, Err, IfErr, IfOk, if◌then◌else◌, inl, inr, subst}
use Rattle.cob_convert.specs.declared.status.Status.{Status}
use Rattle.cob_convert.specs.declared.status.Status.TheVariants as status
use Rattle.cob_program_faults.specs.Done.{status_of_done}
use Rattle.cob_program_faults.specs.declared.done.CommandDone.{CommandDone}
use Rattle.cob_program_faults.specs.declared.done.CommandDone.TheVariants as done
use Rattle.cob_program_faults.specs.declared.fault.CommandFault.{CommandFault}
use Rattle.cob_program_faults.specs.Ends.{AllDone, EndsAmong, EndsAs, EndsAside, HasFault, status_of_conversion, status_of_outcome}

-- a command whose fault is one of these ends among them
pub ends_among : {T : Type 0} (may : CommandFault → Type 0) (outcome : Result T CommandFault) (end : Status)
    → IfErr outcome may → EndsAs (status_of_outcome outcome) end → EndsAmong may end
ends_among may (Ok value) end fine ends = AllDone ends
ends_among may (Err fault) end fine ends = HasFault fault fine ends

-- a conversion that sets none aside, and whose fault is one of these, ends among them
pub conversion_ends : (may : CommandFault → Type 0) (outcome : Result CommandDone CommandFault) (end : Status)
    → IfErr outcome may → IfOk outcome (λ did. status_of_done did ≡ status.Done) → EndsAs (status_of_conversion outcome) end → EndsAmong may end
conversion_ends may (Ok did) end fine whole ends = AllDone (subst (λ told. EndsAs told end) whole ends)
conversion_ends may (Err fault) end fine whole ends = HasFault fault fine ends

-- what ends as a conversion that rejected none, or some
ends_of_some : (may : CommandFault → Type 0) (none : Bool) (end : Status) → EndsAs (if none then status.Done else status.Stopped) end → EndsAside may end
ends_of_some may true end ends = inl (AllDone ends)
ends_of_some may false end ends = inr ends

-- a conversion that sets rejected records aside, and whose fault is one of these, ends so
pub ends_aside : (may : CommandFault → Type 0) (outcome : Result CommandDone CommandFault) (end : Status)
    → IfErr outcome may → EndsAs (status_of_conversion outcome) end → EndsAside may end
ends_aside may (Ok (done.Converted records)) end fine ends = inl (AllDone ends)
ends_aside may (Ok (done.SetAside converted rejected)) end fine ends = ends_of_some may (rejected == 0) end ends
ends_aside may (Err fault) end fine ends = inl (HasFault fault fine ends)
