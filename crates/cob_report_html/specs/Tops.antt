-- Where boxes stand that lie one below another, and are printed on sheets.
use Rattle.std.specs.Prelude.{◌≡◌, ◌⊎◌, ◌+◌, ◌-◌, ◌^◌, ◌<◌, ◌≤◌, ◌%◌, ℕ, List, [], ◌∷◌, min}
use Rattle.cob_report_html.specs.declared.tops.SpacedBox.{SpacedBox}
use Rattle.cob_report_html.specs.declared.tops.TheConstants.{SHEET}

-- the greatest place, which those past it come as
abbrev pub greatest_top : ℕ
greatest_top = 2 ^ 32 - 1

-- A box of this height begins behind one that ends there: where that ends, or at the front of the next sheet, where the rest of the sheet is too short for it.
-- So it stands on one sheet, if it has room on one; a place past the greatest one is that.
pub record BeginsBehind (end height top : ℕ) : Type 0 where
  pub near : (top ≡ end) ⊎ ((SHEET < end % SHEET + height) × (top ≡ min (end + (SHEET - end % SHEET)) greatest_top))
  pub whole : height ≤ SHEET → end + SHEET ≤ greatest_top → top % SHEET + height ≤ SHEET

-- each box begins so behind the one before it and what stays white, and behind the tops stands the end of the last one
abbrev pub AreTops : ℕ → List SpacedBox → List ℕ → Type 0
AreTops end [] tops = tops ≡ end ∷ []
AreTops end (next ∷ boxes) tops =
    (top : ℕ) × (later : List ℕ) × (tops ≡ top ∷ later) × BeginsBehind (min (end + next.gap) greatest_top) next.height top
    × AreTops (min (top + next.height) greatest_top) boxes later
