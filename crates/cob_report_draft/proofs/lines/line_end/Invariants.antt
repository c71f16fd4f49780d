use Rattle.std.proofs.Common.{◌<◌, ◌≤◌, length}
use Rattle.cob_report_draft.proofs.lines.line_end.Given as goal

abbrev pub invariant-loop-at : goal.invariant-loop-at
invariant-loop-at l = record {
  most : l.end ≤ l.width;
  some : 0 < l.end;
  longer : l.width < length l.words;
}
