use Rattle.std.proofs.Common.{◌∙◌, ap, List, ◌∷◌}
use Rattle.cob_source.specs.Tokens.{Lexeme}
use Rattle.cob_copybook_clauses.proofs.clause.separate_at.Goals as goal

pub returns-in-Some-clause-found : goal.returns-in-Some-clause-found
returns-in-Some-clause-found c =
    let (k, is, e) = c.in-Some.ensures.found in
    let (noise, n, f) = c.skip.ensures.found in
    (k ∷ noise, (is, n), e ∙ ap (λ (t : List Lexeme). k ∷ t) f)
