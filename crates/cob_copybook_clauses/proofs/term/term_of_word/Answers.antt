use Rattle.std.proofs.Common.{◌∙◌, ap, sym, unwrap_or}
use Rattle.cob_copybook_entry.specs.Kinds.{usage_word}
use Rattle.cob_copybook_clauses.specs.Terms.{term_of_usage}
use Rattle.cob_copybook_clauses.proofs.Terms.{word_by_tables}
use Rattle.cob_copybook_clauses.proofs.term.term_of_word.Goals as goal

pub returns-in-Some : goal.returns-in-Some
returns-in-Some c =
    let other = term_of_usage (usage_word c.args.text.now) in
    ap (λ o. unwrap_or o other) (sym c.in-Some.is) ∙ c.term_of_length.ensures other ∙ word_by_tables c.args.text.now

pub returns-in-None : goal.returns-in-None
returns-in-None c =
    let other = term_of_usage (usage_word c.args.text.now) in
    c.term_of_usage.ensures ∙ ap (λ o. unwrap_or o other) (sym c.in-None.is) ∙ c.term_of_length.ensures other ∙ word_by_tables c.args.text.now
