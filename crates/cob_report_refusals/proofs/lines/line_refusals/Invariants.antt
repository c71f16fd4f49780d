use Rattle.std.specs.List.{AllByRecursion}
use Rattle.cob_report_refusals.specs.Behind.{StandsBehind}
use Rattle.cob_report_refusals.specs.Refused.{IsRefusedText}
use Rattle.cob_report_refusals.proofs.lines.line_refusals.Given as goal

abbrev pub invariant-loop-done : goal.invariant-loop-done
invariant-loop-done l = StandsBehind l.number l.text l.rest × AllByRecursion (IsRefusedText l.text) l.out.items
