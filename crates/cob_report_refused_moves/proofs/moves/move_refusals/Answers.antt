use Rattle.cob_report_refusals.proofs.Walking.{ok_wider}
use Rattle.cob_report_refused_moves.proofs.Telling.{begin_some}
use Rattle.cob_report_refused_moves.proofs.moves.move_refusals.Goals as goal

pub returns : goal.returns
returns c = record {
  each = c.refusals_with.ensures.each _ c.in-Err.ensures.fault;
  none = λ d is. absurd (c.in_default-rule.not-Memory ((c.in-Err.ensures.only d is).1));
  some = ok_wider c.refusals_with.result (λ v b e. absurd (begin_some c.in-Err.fault v.items b e)) c.refusals_with.ensures.begins;
}
