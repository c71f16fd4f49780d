-- How the command `explain` can end.
use Rattle.cob_convert.specs.declared.status.Status.{Status}
use Rattle.cob_convert.specs.declared.status.Status.TheVariants as status
use Rattle.cob_report_explain.specs.declared.explainer.Explanation.{Explanation}
use Rattle.cob_report_explain.specs.declared.explainer.Explanation.TheVariants as told
use Rattle.cob_program_faults.specs.declared.fault.CommandFault.TheVariants as fault
use Rattle.cob_program_faults.specs.Ends.{EndsAs}
use Rattle.cob_program_faults.specs.Faults.{status_of}

-- The command ends so where this is told of the record: as a malformed command line where it is not there, as done where it converts, and else with the
-- status of the fault that stops a run at it.
abbrev pub EndsTold : Explanation → Status → Type 0
EndsTold (told.Missing records) end = EndsAs status.Malformed end
EndsTold told.Converts end = EndsAs status.Done end
EndsTold (told.Stops stopped) end = EndsAs (status_of (fault.Stopped stopped.fault)) end
EndsTold (told.Refused stopped) end = EndsAs (status_of (fault.Stopped stopped.fault)) end
