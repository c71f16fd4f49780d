-- Which faults the command `check` can have, and how it ends.
use Rattle.std.specs.Prelude.{◌≡◌, ◌⊎◌, ◌&&◌, Bool, true, Result, Ok, Err, if◌then◌else◌}
use Rattle.cob_convert.specs.declared.status.Status.{Status}
use Rattle.cob_convert.specs.declared.status.Status.TheVariants as status
use Rattle.cob_report_cover.specs.declared.text.CoverText.{CoverText}
use Rattle.cob_program_faults.specs.declared.fault.CommandFault.{CommandFault}
use Rattle.cob_program_faults.specs.Ends.{EndsAmong, EndsAs}
use Rattle.cob_program_faults.specs.Faults.{status_of}
use Rattle.cob_program_faults.specs.Texts.{LacksConverter}

-- The faults that `check` can have: those of the texts.
abbrev pub MayEndCheck : CommandFault → Type 0
MayEndCheck told = LacksConverter told

-- the status of a check that is done: of a strict one, where something is open, that of a run that a record stopped
abbrev pub status_of_cover : (strict is_open : Bool) → Status
status_of_cover strict is_open = if strict && is_open then status.Stopped else status.Done

-- the status of what a check with lists came to, strict or not
abbrev pub status_of_covered : Bool → Result CoverText CommandFault → Status
status_of_covered strict (Ok covered) = status_of_cover strict covered.is_open
status_of_covered strict (Err fault) = status_of fault

-- How a check ends, strict or not: all is done, or it has one of its faults; a strict one also as a run that a record stopped.
abbrev pub EndsCheck : Bool → Status → Type 0
EndsCheck strict end = EndsAmong MayEndCheck end ⊎ ((strict ≡ true) × EndsAs status.Stopped end)
