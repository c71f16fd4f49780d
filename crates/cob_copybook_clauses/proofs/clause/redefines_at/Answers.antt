use Rattle.std.proofs.Common.{◌∙◌, ap, refl, List, [], ◌∷◌, ◌++◌}
use Rattle.cob_source.specs.Tokens.{Lexeme}
use Rattle.cob_copybook_clauses.proofs.clause.redefines_at.Goals as goal

pub returns-clause-found : goal.returns-clause-found
returns-clause-found c =
    let (k, is, e) = c.in_ok-more.ensures.found in
    let (w, word, f) = c.in_ok-name.ensures.found in
    (k ∷ (w ∷ []), (k, w, is, word, refl), e ∙ ap (λ (t : List Lexeme). k ∷ t) f)

pub returns-in_err-name-clause-only : goal.returns-in_err-name-clause-only
returns-in_err-name-clause-only c = λ n ws more (k, w, is, word, e) first f.
    absurd (c.in_err-name.ensures.only n w more word (c.in_ok-more.ensures.only k (w ∷ more) is (f ∙ ap (λ (t : List Lexeme). t ++ more) e)))
