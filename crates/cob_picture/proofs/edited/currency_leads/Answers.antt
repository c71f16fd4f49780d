use Rattle.std.proofs.Common.{◌≡◌, true, false, List, sym, ap, subst, ◌∙◌}
use denote.Enum.Bare.{differs_false}
use Rattle.cob_picture.specs.contracts.symbol.Symbol.{the_type}
use Rattle.cob_picture.specs.declared.symbol.Symbol.TheVariants.{Dollar}
use Rattle.cob_picture.specs.declared.symbol.Run.{Run}
use Rattle.cob_picture.specs.Positions.{written_out, symbol_count}
use Rattle.cob_picture.specs.Runs.{ArePositive}
use Rattle.cob_picture.specs.Edited.{CurrencyLeads, is_sign_run}
use Rattle.cob_picture.proofs.EditedFacts.{leads_yes, leads_must}
use Rattle.cob_picture.proofs.edited.currency_leads.Goals as goal

pub returns-then-not-is_sign_run-clause-must : goal.returns-then-not-is_sign_run-clause-must
returns-then-not-is_sign_run-clause-must c = λ h.
    let e = c.in-Some.ensures.cases.0 in
    let m = leads_must c.in-Some.first.now c.in-Some.rest.now (subst ArePositive e c.requires.positive) (subst (λ (t : List Run). CurrencyLeads (written_out t)) e h) in
    let x : true ≡ false = sym m.floats ∙ sym (c.is_sign_run.ensures ∙ ap is_sign_run c.run_symbol_of.ensures) ∙ c.if-not-is_sign_run.true in
    sym x

pub returns-clause-yes : goal.returns-clause-yes
returns-clause-yes c = λ t.
    let e = c.in-Some.ensures.cases.0 in
    subst (λ (t : List Run). CurrencyLeads (written_out t)) (sym e)
    (leads_yes c.in-Some.first.now c.in-Some.rest.now (subst ArePositive e c.requires.positive)
    (differs_false the_type tt _ _ (sym c.ne.ensures ∙ c.if-ne.false))
    (subst (λ (t : List Run). symbol_count Dollar (written_out t) ≡ 1) e (sym c.count_of.ensures.value ∙ c.if-count_of-ne1.false))
    (sym (c.is_sign_run.ensures ∙ ap is_sign_run c.run_symbol_of.ensures) ∙ c.if-not-is_sign_run.false)
    (c.is_numeric_edited.ensures.yes t))

pub returns-clause-must : goal.returns-clause-must
returns-clause-must c = λ h.
    let e = c.in-Some.ensures.cases.0 in
    let m = leads_must c.in-Some.first.now c.in-Some.rest.now (subst ArePositive e c.requires.positive) (subst (λ (t : List Run). CurrencyLeads (written_out t)) e h) in
    c.is_numeric_edited.ensures.must m.edited
