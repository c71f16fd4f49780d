use Rattle.std.proofs.Common.{◌∙◌, ap, refl, List, [], ◌∷◌}
use Rattle.cob_source.specs.Tokens.{Lexeme}
use Rattle.cob_copybook_clauses.proofs.table.limits_at.Goals as goal

pub returns-in-Some-clause-found : goal.returns-in-Some-clause-found
returns-in-Some-clause-found c =
    let (w, free, e) = c.in_ok-first.ensures.found in
    let (to, is, f) = c.in-Some.ensures.found in
    let (m, most, g) = c.in_ok-most.ensures.found in
    (w ∷ (to ∷ []), m, (w, to, free, is, refl), most, e ∙ ap (λ (t : List Lexeme). w ∷ t) (f ∙ ap (λ (t : List Lexeme). to ∷ t) g))
