-- What is in the line and the subscripts that are left are all; each has taken 11 characters at most.
use Rattle.std.proofs.Common.{◌≡◌, ◌≤◌, ◌+◌, ◌*◌, ◌++◌, length, drop}
use Rattle.cob_report_show.specs.Lines.{further_text}
use Rattle.cob_report_show.proofs.elements.push_further.Given as goal

abbrev pub invariant-loop-subscript : goal.invariant-loop-subscript
invariant-loop-subscript l = record {
  text : l.line.items ++ further_text (drop l.subscript-index l.subscripts) ≡ l.initial.line.items ++ further_text l.subscripts;
  long : length l.line.items ≤ length l.initial.line.items + (l.subscript-index * 11);
}
