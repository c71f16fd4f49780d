use Rattle.std.proofs.Common.{rules, sym, subst}
use Rattle.cob_source.specs.Tokens.{lexemes}
use Rattle.cob_copybook_entry.specs.declared.fault.BookRule.{BookRule}
use Rattle.cob_report_refusals.specs.Refused.{BreaksByItself}
use Rattle.cob_report_refusals.proofs.Walking.{all_pushed, ok_wider}
use Rattle.cob_report_refusals.proofs.sentences.with_first.Goals as goal

pub returns-in-Some : goal.returns-in-Some
returns-in-Some c = λ text how all.
    let r = c.refusal_of.result in
    let broken : BreaksByItself r.fault.rule (lexemes c.args.sentence.now) = subst (λ (k : BookRule). BreaksByItself k (lexemes c.args.sentence.now)) (sym c.refusal_of.ensures.rule) (search rules) in
    ok_wider c.pushed.result (λ v e. all_pushed text c.args.refusals.items r v.items e all (how r c.refusal_of.ensures.entry broken)) c.pushed.ensures
