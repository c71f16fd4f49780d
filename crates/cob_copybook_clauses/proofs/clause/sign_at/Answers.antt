use Rattle.std.proofs.Common.{◌∙◌, ap, refl, sym, ◌∷◌, ◌++◌}
use Rattle.cob_source.specs.Tokens.{lexeme, lexemes}
use Rattle.cob_copybook_clauses.specs.Clauses.{leading_of}
use Rattle.cob_copybook_clauses.proofs.ClauseLemmas.{prefix_words}
use Rattle.cob_copybook_clauses.proofs.clause.sign_at.Goals as goal

pub returns-clause-found : goal.returns-clause-found
returns-clause-found c =
    let (before, pre, e) = c.skip_prefix.ensures.found in
    let (sep, separate, f) = c.separate_at-separate.ensures.found in
    let w = lexeme c.in_ok-first.first.now in (
      before ++ w ∷ sep,
      (before, w, sep, pre, ap leading_of (sym c.word_class.ensures) ∙ sym c.leading_of.ensures ∙ c.in_ok-leading.was, separate, refl),
      prefix_words w _ before _ _ sep _ e (ap lexemes c.in_ok-first.ensures.cases.0) f,
    )
