use Rattle.std.proofs.Common.{Some, sym, ap, ◌∙◌}
use Rattle.std.proofs.lemmas.Result.{err_from_is_err_and}
use Rattle.cob_copybook_entries.proofs.Sentences.{data_added}
use Rattle.cob_copybook_entries.proofs.sentence.sentence_of.Goals as goal

pub returns-in-Some-clause-only : goal.returns-in-Some-clause-only
returns-in-Some-clause-only c = λ d h. absurd (h.0 _ c.in-Some.ensures.found)

pub returns-in_err-entry-clause-only : goal.returns-in_err-entry-clause-only
returns-in_err-entry-clause-only c = λ d h.
    let x = data_added _ d h.1 (sym c.is_condition.ensures ∙ c.if-is_condition.false) in
    let p = err_from_is_err_and c.from_residual-in_err-entry.result c.from_residual-in_err-entry.ensures.1 in
    rw (p.1, p.2) (c.in_err-entry.ensures.only x.0 x.2)

pub returns-clause-only : goal.returns-clause-only
returns-clause-only c = λ d h.
    let x = data_added _ d h.1 (sym c.is_condition.ensures ∙ c.if-is_condition.false) in
    (ap (λ y. Some y) (c.in_ok-entry.ensures.only x.0 x.2).0 ∙ sym x.1, tt)
