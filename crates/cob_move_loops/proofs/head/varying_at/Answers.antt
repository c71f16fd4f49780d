use Rattle.std.proofs.Common.{List, [], ◌∷◌, refl, ap, ◌∙◌}
use Rattle.cob_source.specs.Tokens.{Lexeme}
use Rattle.cob_move_loops.specs.Words.{first_line}
use Rattle.cob_move_loops.proofs.head.varying_at.Goals as goal

pub returns-clause-found : goal.returns-clause-found
returns-clause-found c =
    let (w, iw, e) = c.in_ok-performed.ensures.found in
    let (v, iv, f) = c.in_ok-varied.ensures.found in
    let (k, ik, g) = c.in_ok-name.ensures.found in (
      w ∷ v ∷ k ∷ [],
      (w, v, k, iw, c.first_line.ensures ∙ ap first_line e, iv, ik, refl),
      e ∙ ap (λ (t : List Lexeme). w ∷ t) f ∙ ap (λ (t : List Lexeme). w ∷ v ∷ t) g,
    )
