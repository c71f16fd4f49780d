use Rattle.std.proofs.Common.{◌<◌}
use Rattle.cob_report_draft.proofs.lines.DraftLines.push_words.Given as goal

abbrev pub invariant-loop : goal.invariant-loop
invariant-loop l = l.indent < 72
