use Rattle.std.proofs.Common.{List, [], ◌∷◌, ap, ◌∙◌}
use Rattle.cob_source.specs.Tokens.{Lexeme}
use Rattle.cob_move_loops.proofs.head.behind_greater.Goals as goal

pub returns-in-Some-clause-found : goal.returns-in-Some-clause-found
returns-in-Some-clause-found c =
    let (w, is, e) = c.in_ok-more.ensures.found in
    let (v, it, f) = c.in-Some.ensures.found in
    (w ∷ v ∷ [], (is, it), e ∙ ap (λ (t : List Lexeme). w ∷ t) f)

pub returns-in-None-clause-found : goal.returns-in-None-clause-found
returns-in-None-clause-found c =
    let (w, is, e) = c.in_ok-more.ensures.found in
    (w ∷ [], is, e)
