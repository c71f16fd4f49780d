-- Boxes one below another, so far.
use Rattle.std.proofs.Common.{◌≡◌, ◌<◌, ◌+◌, ℕ, List, [], ◌∷◌, ◌++◌, length, drop, get_or, min, refl, sym, ap, subst, append_assoc, ◌∙◌}
use Rattle.std.proofs.lemmas.List.{drop_more}
use Rattle.cob_report_html.specs.declared.tops.SpacedBox.{SpacedBox}
use Rattle.cob_report_html.specs.Tops.{AreTops, BeginsBehind, greatest_top}

pub tops_more : (first end start top next : ℕ) (boxes : List SpacedBox) (items pushed : List ℕ) (i : ℕ) (d : SpacedBox) → i < length boxes
    → start ≡ min (end + (get_or boxes i d).gap) greatest_top → BeginsBehind start (get_or boxes i d).height top
    → next ≡ min (top + (get_or boxes i d).height) greatest_top → pushed ≡ items ++ top ∷ []
    → ((later : List ℕ) → AreTops end (drop i boxes) later → AreTops first boxes (items ++ later))
    → (later : List ℕ) → AreTops next (drop (i + 1) boxes) later → AreTops first boxes (pushed ++ later)
tops_more first end start top next boxes items pushed i d within starts begins is push so_far later tops =
    subst (AreTops first boxes) (sym (append_assoc items (top ∷ []) later) ∙ ap (λ (l : List ℕ). l ++ later) (sym push))
    (so_far (top ∷ later) (subst (λ (bs : List SpacedBox). AreTops end bs (top ∷ later)) (sym (drop_more boxes i d within)) (
      top,
      later,
      refl,
      subst (λ (s : ℕ). BeginsBehind s (get_or boxes i d).height top) starts begins,
      subst (λ (n : ℕ). AreTops n (drop (i + 1) boxes) later) is tops,
    )))
