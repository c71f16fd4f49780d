-- Titles of listings.
use Rattle.std.proofs.Common.{◌≡◌, ℕ, Bool, true, false, List, ◌∷◌, refl, sym, ap, ◌∙◌}
use Rattle.std.specs.Prelude.{◌==◌, ◌&&◌, not}
use Rattle.cob_source.specs.Lines.{behind_spaces, closes_title, is_period_or_nothing}

-- a character of the literal
pub title_on : (q : ℕ) (seen here : Bool) (b : ℕ) (rest more : List ℕ) → rest ≡ b ∷ more → here ≡ (b == q) → (seen && not here) ≡ false → closes_title q seen rest ≡ closes_title q (here && not seen) more
title_on q seen here b rest more r e go_on = ap (closes_title q seen) r ∙ by seen here e go_on
  where
    by : (s h : Bool) → h ≡ (b == q) → (s && not h) ≡ false → closes_title q s (b ∷ more) ≡ closes_title q (h && not s) more
    by true true e n = rw (sym e) refl
    by true false e n = absurd cc
    by false true e n = ap (λ (x : Bool). closes_title q x more) (sym e)
    by false false e n = ap (λ (x : Bool). closes_title q x more) (sym e)

-- what stands behind it
pub title_over : (q : ℕ) (seen here : Bool) (b : ℕ) (rest more : List ℕ) → rest ≡ b ∷ more → here ≡ (b == q) → (seen && not here) ≡ true → closes_title q seen rest ≡ is_period_or_nothing (behind_spaces rest)
title_over q seen here b rest more r e over = ap (closes_title q seen) r ∙ by seen here e over ∙ ap (λ (t : List ℕ). is_period_or_nothing (behind_spaces t)) (sym r)
  where
    by : (s h : Bool) → h ≡ (b == q) → (s && not h) ≡ true → closes_title q s (b ∷ more) ≡ is_period_or_nothing (behind_spaces (b ∷ more))
    by true false e o = rw (sym e) refl
    by true true e o = absurd cc
    by false h e o = absurd cc
