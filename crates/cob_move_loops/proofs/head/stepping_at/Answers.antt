use Rattle.std.proofs.Common.{List, [], ◌∷◌, refl, ap, ◌∙◌}
use Rattle.cob_source.specs.Tokens.{Lexeme}
use Rattle.cob_move_loops.proofs.head.stepping_at.Goals as goal

pub returns-clause-found : goal.returns-clause-found
returns-clause-found c =
    let (p, ip, e) = c.in_ok-begun.ensures.found in
    let (v, iv, f) = c.in_ok-from.ensures.found in
    let (b, ib, g) = c.in_ok-added.ensures.found in
    let (n, by, h) = c.in_ok-by.ensures.found in (
      p ∷ v ∷ b ∷ n ∷ [],
      (p, v, b, n, ip, iv, ib, by, refl),
      e ∙ ap (λ (t : List Lexeme). p ∷ t) f ∙ ap (λ (t : List Lexeme). p ∷ v ∷ t) g ∙ ap (λ (t : List Lexeme). p ∷ v ∷ b ∷ t) h,
    )
