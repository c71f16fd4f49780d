use Rattle.std.proofs.Common.{◌∙◌, ap, refl, List, [], ◌∷◌, ◌++◌}
use Rattle.cob_source.specs.Tokens.{Lexeme}
use Rattle.cob_copybook_clauses.proofs.ClauseLemmas.{last_words}
use Rattle.cob_copybook_clauses.proofs.clause.picture_at.Goals as goal

pub returns-clause-found : goal.returns-clause-found
returns-clause-found c =
    let (k, is, e) = c.in_ok-more.ensures.found in
    let (noise, n, f) = c.skip.ensures.found in
    let (w, word, not, g) = c.in_ok-picture.ensures.found in
    (k ∷ (noise ++ w ∷ []), (k, noise, w, is, n, word, not, refl), last_words k w _ _ noise _ e (f ∙ ap (λ (t : List Lexeme). noise ++ t) g))
