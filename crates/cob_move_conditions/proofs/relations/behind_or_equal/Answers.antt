use Rattle.std.proofs.Common.{◌∷◌, ◌++◌, ◌∙◌, List, ap, append_assoc, refl, sym}
use Rattle.cob_source.specs.Tokens.{Lexeme, lexemes}
use Rattle.cob_move_conditions.proofs.relations.behind_or_equal.Goals as goal

pub returns-clause-found : goal.returns-clause-found
returns-clause-found c =
    let (than, is_than, a) = c.without_condition_word-either.ensures.found in
    let (either, is_either, b) = c.in_ok-equal.ensures.found in
    let (equal, is_equal, d) = c.in_ok-more.ensures.found in
    let (to, is_to, e) = c.without_word.ensures.found in (
      than ++ (either ∷ equal ∷ to),
      record { than = than; either = either; equal = equal; to = to; is_than = is_than; is_either = is_either; is_equal = is_equal; is_to = is_to; words = refl },
      a ∙ ap (λ (t : List Lexeme). than ++ t) (b ∙ ap (λ (t : List Lexeme). either ∷ t) (d ∙ ap (λ (t : List Lexeme). equal ∷ t) e))
          ∙ sym (append_assoc than (either ∷ equal ∷ to) (lexemes c.without_word.result.now)),
    )
