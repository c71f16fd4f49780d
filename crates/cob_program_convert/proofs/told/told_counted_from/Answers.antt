use Rattle.std.proofs.Common.{◌≡◌, ◌⊎◌, ℕ, Bool, sym, subst, ap, inl, inr, arith}
use Rattle.cob_program_faults.specs.declared.fault.CommandFault.{CommandFault}
use Rattle.cob_program_faults.specs.declared.fault.CommandFault.TheVariants as fault
use Rattle.cob_program_run.specs.Ends.{LacksOutput, LacksOutputs, LacksRejected, StopsRun}
use Rattle.cob_program_convert.specs.Ends.{MayEndAside, MayEndConvert}
use Rattle.cob_program_ends.specs.Counted.{counted_from}
use Rattle.cob_program_convert.proofs.told.told_counted_from.Goals as goal

stops_from : (first : ℕ) (told : CommandFault) → StopsRun told → StopsRun (counted_from first told)
stops_from first (fault.Stopped stopped) h = tt
stops_from first (fault.Unflushed last) h = omega (arith, h)
stops_from first fault.Unprinted h = tt
stops_from first _ h = absurd h

rejected_from : (first : ℕ) (told : CommandFault) → LacksRejected told → LacksRejected (counted_from first told)
rejected_from first (fault.NotSetAside number cause) h = tt
rejected_from first (fault.UnflushedAside last) h = omega (arith, h)
rejected_from first _ h = absurd h

output_from : (first : ℕ) (atomic : Bool) (told : CommandFault) → LacksOutput atomic told → LacksOutput atomic (counted_from first told)
output_from first atomic told (inl stops) = inl (stops_from first told stops)
output_from first atomic told (inr renames) = inr (renames.0, ap (counted_from first) renames.1)

renamed_from : (first : ℕ) (told : CommandFault) → (told ≡ fault.NotRenamed) ⊎ (told ≡ fault.NotRenamedAside)
    → (counted_from first told ≡ fault.NotRenamed) ⊎ (counted_from first told ≡ fault.NotRenamedAside)
renamed_from first told (inl is) = inl (ap (counted_from first) is)
renamed_from first told (inr is) = inr (ap (counted_from first) is)

outputs_from : (first : ℕ) (atomic : Bool) (told : CommandFault) → LacksOutputs atomic told → LacksOutputs atomic (counted_from first told)
outputs_from first atomic told (inl (inl stops)) = inl (inl (stops_from first told stops))
outputs_from first atomic told (inl (inr lacks)) = inl (inr (rejected_from first told lacks))
outputs_from first atomic told (inr renames) = inr (renames.0, renamed_from first told renames.1)

pub returns-in-Err-clause-plain : goal.returns-in-Err-clause-plain
returns-in-Err-clause-plain g c = λ atomic lacks.
    subst (MayEndConvert atomic) (sym c.counted_from.ensures) (inr (inr (output_from c.args.first atomic c.in-Err.fault (rw c.in-Err.is at lacks))))

pub returns-in-Err-clause-aside : goal.returns-in-Err-clause-aside
returns-in-Err-clause-aside g c = λ atomic lacks.
    subst (MayEndAside atomic) (sym c.counted_from.ensures) (inr (inr (outputs_from c.args.first atomic c.in-Err.fault (rw c.in-Err.is at lacks))))
