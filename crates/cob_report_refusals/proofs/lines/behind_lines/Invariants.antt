use Rattle.cob_report_refusals.specs.Behind.{StandsBehind}
use Rattle.cob_report_refusals.proofs.lines.behind_lines.Given as goal

abbrev pub invariant-loop-done : goal.invariant-loop-done
invariant-loop-done l = StandsBehind l.done l.text l.rest
