use Rattle.std.proofs.Common.{◌≤◌, length}
use Rattle.cob_report_cover.proofs.text.push_runs.Given as goal

abbrev pub invariant-loop : goal.invariant-loop
invariant-loop l = l.from ≤ length l.marks
