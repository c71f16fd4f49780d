-- How the command ends by what it tells.
use Rattle.std.proofs.Common.{inl, inr}
use Rattle.cob_convert.specs.declared.status.Status.{Status}
use Rattle.cob_report_explain.specs.declared.explainer.Explanation.{Explanation}
use Rattle.cob_report_explain.specs.declared.explainer.Explanation.TheVariants as told
use Rattle.cob_report_explain.specs.Explained.{IsExplanation}
use Rattle.cob_program_faults.specs.declared.fault.CommandFault.TheVariants as fault
use Rattle.cob_program_faults.specs.Ends.{AllDone, EndsAtRecord, HasFault}
use Rattle.cob_program_explain.specs.Ends.{EndsTold}

pub ends_told : (t : Explanation) (end : Status) → IsExplanation t → EndsTold t end → EndsAtRecord end
ends_told (told.Missing records) end is h = inr h
ends_told told.Converts end is h = inl (AllDone h)
ends_told (told.Stops stopped) end is h = inl (HasFault (fault.Stopped stopped.fault) (inr (inr is)) h)
ends_told (told.Refused stopped) end is h = inl (HasFault (fault.Stopped stopped.fault) (inr (inr is)) h)
