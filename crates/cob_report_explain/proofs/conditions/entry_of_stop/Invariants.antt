use Rattle.cob_report_explain.specs.Flowing.{records_walked}
use Rattle.cob_report_explain.specs.Walked.{HasWalkRoom}
use Rattle.cob_report_explain.proofs.conditions.entry_of_stop.Given as goal

abbrev pub invariant-loop-number : goal.invariant-loop-number
invariant-loop-number l = HasWalkRoom (records_walked l.walk) l.room
