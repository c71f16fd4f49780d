use Rattle.cob_report_refusals.proofs.Walking.{begin_some, ok_wider, only_memory}
use Rattle.cob_report_refusals.proofs.books.book_refusals.Goals as goal

pub returns : goal.returns
returns c = record {
  each = c.refusals_with.ensures.each c.args.role c.in-Err.ensures.fault;
  none = λ t is. absurd (c.in_default-rule.not-Memory (only_memory c.in-Err.fault.rule ((c.in-Err.ensures.only t is).1)));
  some = ok_wider c.refusals_with.result (λ v b e. absurd (begin_some c.in-Err.fault v.items b e)) c.refusals_with.ensures.begins;
}
