use Rattle.std.proofs.Common.{◌∷◌, ◌++◌, ◌∙◌, List, ap, refl}
use Rattle.cob_source.specs.Tokens.{Lexeme}
use Rattle.cob_move_conditions.proofs.relations.not_order_at.Goals as goal

pub returns-clause-found : goal.returns-clause-found
returns-clause-found c =
    let (w, is, e) = c.in_ok-own.ensures.found in
    let (os, ordered, f) = c.in_ok-order.ensures.found in
    (w ∷ os, (w, os, is, ordered, refl), e ∙ ap (λ (t : List Lexeme). w ∷ t) f)

pub returns-clause-only : goal.returns-clause-only
returns-clause-only c = λ order ws more (w, own, is, ordered, e) fit cut.
    let read = c.in_ok-own.ensures.only w (own ++ more) is (cut ∙ ap (λ (t : List Lexeme). t ++ more) e) in
    c.in_ok-order.ensures.only order own more ordered fit read
