-- What the command tells of a run.
use Rattle.std.specs.Prelude.{ℕ, Bool, true, false, Option, None, Some, Result, Ok, Err}
use Rattle.cob_convert.specs.declared.aside.Tally.{Tally}
use Rattle.cob_records.specs.Device.{greatest_count}
use Rattle.cob_records.specs.declared.progress.Telling.{Telling}
use Rattle.cob_program_faults.specs.declared.done.CommandDone.{CommandDone}
use Rattle.cob_program_faults.specs.declared.done.CommandDone.TheVariants as done
use Rattle.cob_program_faults.specs.declared.fault.CommandFault.{CommandFault}
use Rattle.cob_program_faults.specs.declared.fault.CommandFault.TheVariants as fault
use Rattle.cob_program_ends.specs.Counted.{counted_from}

-- what a run came to, with its records counted from this one
abbrev pub told_counted_from : {T : Type 0} → ℕ → Result T CommandFault → Result T CommandFault
told_counted_from first (Ok done) = Ok done
told_counted_from first (Err told) = Err (counted_from first told)

-- how many records a run may reject: all where no number is said
abbrev pub most_of : Option ℕ → ℕ
most_of None = greatest_count
most_of (Some most) = most

-- whether a run writes over the line that tells how far it is, where it tells that
abbrev pub rewrites_line : Option Telling → Bool
rewrites_line None = false
rewrites_line (Some telling) = telling.rewrites

-- what so many records come to, where the fault lines of the rejected ones were all printed, or were not
abbrev pub told_tally : (printed : Bool) → Tally → Result CommandDone CommandFault
told_tally false tally = Err fault.Unprinted
told_tally true tally = Ok (done.SetAside tally.converted tally.rejected)

-- what a run comes to, where the fault lines of the rejected records were all printed, or were not
abbrev pub told_run : (printed : Bool) → Result Tally CommandFault → Result CommandDone CommandFault
told_run printed (Ok tally) = told_tally printed tally
told_run printed (Err told) = Err told
