use Rattle.std.proofs.Common.{ap, refl, [], ◌∷◌, ◌++◌}
use Rattle.cob_source.specs.Tokens.{lexeme, lexemes}
use Rattle.cob_copybook_clauses.proofs.ClauseLemmas.{prefix_words}
use Rattle.cob_copybook_clauses.proofs.clause.usage_at.Goals as goal

pub returns-clause-found : goal.returns-clause-found
returns-clause-found c =
    let (before, pre, e) = c.skip_prefix.ensures.found in
    let w = lexeme c.in_ok-first.first.now in (
      before ++ w ∷ [],
      (before, w, pre, c.in_ok-usage.ensures.found, refl),
      prefix_words w _ before _ _ [] _ e (ap lexemes c.in_ok-first.ensures.cases.0) refl,
    )
