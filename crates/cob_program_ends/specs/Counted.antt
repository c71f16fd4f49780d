-- Faults whose records are counted from a number.
use Rattle.std.specs.Prelude.{◌+◌, ◌-◌, ℕ}
use Rattle.cob_records.specs.Progress.{kept_count}
use Rattle.cob_program_faults.specs.declared.fault.CommandFault.{CommandFault}
use Rattle.cob_program_faults.specs.declared.fault.CommandFault.TheVariants as fault

-- a record's number, where the first that was read has this one
abbrev pub number_from : (first number : ℕ) → ℕ
number_from first number = kept_count (number + (first - 1))

-- A fault with its records counted from this one: the first that was read has this number.
abbrev pub counted_from : ℕ → CommandFault → CommandFault
counted_from first (fault.Stopped stopped) = fault.Stopped (record stopped { number = number_from first stopped.number })
counted_from first (fault.Unflushed last) = fault.Unflushed (number_from first last)
counted_from first (fault.NotSetAside number cause) = fault.NotSetAside (number_from first number) cause
counted_from first (fault.UnflushedAside last) = fault.UnflushedAside (number_from first last)
counted_from first told = told
