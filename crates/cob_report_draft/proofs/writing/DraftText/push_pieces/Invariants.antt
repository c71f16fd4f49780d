use Rattle.std.proofs.Common.{◌≤◌}
use Rattle.cob_report_draft.proofs.writing.DraftText.push_pieces.Given as goal

abbrev pub invariant-loop-piece : goal.invariant-loop-piece
invariant-loop-piece l = l.next ≤ l.piece-index
