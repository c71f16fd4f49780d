use Rattle.std.proofs.Common.{ap, ◌∷◌, ◌∙◌, List}
use Rattle.cob_source.specs.Tokens.{Lexeme}
use Rattle.cob_copybook_clauses.proofs.words.skip_prefix.Goals as goal

pub returns-in-Some-clause-found : goal.returns-in-Some-clause-found
returns-in-Some-clause-found c =
    let (w, is, e) = c.in-Some.ensures.found in
    let (noise, n, f) = c.skip.ensures.found in
    (w ∷ noise, (is, n), e ∙ ap (λ (t : List Lexeme). w ∷ t) f)
