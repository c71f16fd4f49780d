-- Spaces in place of tabs.
use Rattle.std.specs.Prelude.{◌≡◌, ℕ, ◌+◌, ◌-◌, ◌%◌, ◌==◌, false, not, nat_lt, if◌then◌else◌, List, [], ◌∷◌, ◌++◌, replicate}
use Rattle.std.specs.List.{list_any}

-- a text with spaces in place of each tab before column 73: they go to the next column that tab stops of this width have in front of
-- them. So many columns of its first line stand before it.
abbrev pub untabbed_from : ℕ → ℕ → List ℕ → List ℕ
untabbed_from width column [] = []
untabbed_from width column (b ∷ bs) =
    if b == 10 then b ∷ untabbed_from width 0 bs else
    if not (nat_lt column 72) then b ∷ untabbed_from width column bs else
    if b == 9 then replicate (width - column % width) 32 ++ untabbed_from width (column + (width - column % width)) bs else
    b ∷ untabbed_from width (column + 1) bs

-- a text with spaces in place of its tabs
abbrev pub untabbed : ℕ → List ℕ → List ℕ
untabbed width text = untabbed_from width 0 text

-- law: a text without tabs is as it was
abbrev pub TabsAloneChange : Type 0
TabsAloneChange = (width : ℕ) (text : List ℕ) → list_any (λ b. b == 9) text ≡ false → untabbed width text ≡ text
