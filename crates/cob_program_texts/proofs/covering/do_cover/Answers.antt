use Rattle.std.proofs.Common.{Bool, true, false, inl, inr, refl, Result, Ok, Err}
use Rattle.std.specs.Prelude.{IfErr}
use Rattle.cob_convert.specs.declared.status.Status.{Status}
use Rattle.cob_report_cover.specs.declared.text.CoverText.{CoverText}
use Rattle.cob_program_faults.specs.declared.fault.CommandFault.{CommandFault}
use Rattle.cob_program_faults.specs.Ends.{AllDone, EndsAs, HasFault}
use Rattle.cob_program_texts.specs.CheckEnds.{EndsCheck, MayEndCheck, status_of_cover, status_of_covered}
use Rattle.cob_program_texts.proofs.covering.do_cover.Goals as goal

-- a check that is done ends so
ends_done : (strict is_open : Bool) (end : Status) → EndsAs (status_of_cover strict is_open) end → EndsCheck strict end
ends_done true true end ends = inr (refl, ends)
ends_done true false end ends = inl (AllDone ends)
ends_done false is_open end ends = inl (AllDone ends)

-- and so does one that is not
ends_check : (strict : Bool) (outcome : Result CoverText CommandFault) (end : Status) → IfErr outcome MayEndCheck
    → EndsAs (status_of_covered strict outcome) end → EndsCheck strict end
ends_check strict (Ok covered) end may ends = ends_done strict covered.is_open end ends
ends_check strict (Err fault) end may ends = inl (HasFault fault may ends)

pub returns : goal.returns
returns g c = ends_check _ _ _ c.cover.ensures c.tell_covered.ensures
