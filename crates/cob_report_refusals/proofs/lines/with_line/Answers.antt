use Rattle.std.proofs.Common.{rules}
use Rattle.cob_copybook_entry.specs.declared.fault.BookRule.TheVariants.{Source}
use Rattle.cob_report_refusals.proofs.Placing.{refusal_told}
use Rattle.cob_report_refusals.proofs.Walking.{all_pushed, as_told, ok_wider}
use Rattle.cob_report_refusals.proofs.lines.with_line.Goals as goal

pub returns-in-Some : goal.returns-in-Some
returns-in-Some c = λ text rest far broken all.
    let r = c.line_refusal.result in
    let told = refusal_told c.args.fault.rule c.args.before c.args.fault.line c.in-Some.line text rest (search rules) (search rules) far broken in
    ok_wider c.pushed.result (λ v e. all_pushed text c.args.refusals.items r v.items e all (as_told r (Source c.args.fault.rule) c.in-Some.line text c.line_refusal.ensures.rule c.line_refusal.ensures.line c.line_refusal.ensures.entry told)) c.pushed.ensures
