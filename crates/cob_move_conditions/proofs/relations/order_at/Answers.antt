use Rattle.std.proofs.Common.{◌∷◌, ◌∙◌, List, ap, refl, subst, sym}
use Rattle.cob_source.specs.Tokens.{Lexeme, lexeme, lexemes}
use Rattle.cob_move_conditions.specs.Relations.{IsBehindOrder, order_of_word}
use Rattle.cob_move_conditions.proofs.relations.order_at.Goals as goal

pub returns-clause-found : goal.returns-clause-found
returns-clause-found c =
    let (bs, is, e) = c.without_noise.ensures.found in
    let w = lexeme c.in_ok-first.first.now in (
      w ∷ bs,
      (w, bs, ap order_of_word (sym c.condition_word-word.ensures) ∙ sym c.order_of_word.ensures ∙ c.in_ok-order.was, subst (λ x. IsBehindOrder x bs) c.condition_word-word.ensures is, refl),
      ap lexemes c.in_ok-first.ensures.cases.0 ∙ ap (λ (t : List Lexeme). w ∷ t) e,
    )
