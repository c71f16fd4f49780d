use Rattle.std.proofs.Common.{◌∙◌, ap, refl, List, ◌∷◌}
use Rattle.cob_source.specs.Tokens.{Lexeme}
use Rattle.cob_copybook_clauses.proofs.clause.justified_at.Goals as goal

pub returns-clause-found : goal.returns-clause-found
returns-clause-found c =
    let (k, is, e) = c.in_ok-more.ensures.found in
    let (noise, n, f) = c.skip.ensures.found in
    (k ∷ noise, (k, noise, is, n, refl), e ∙ ap (λ (t : List Lexeme). k ∷ t) f)
