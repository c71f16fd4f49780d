-- The sign of a numeric literal.
use Rattle.std.specs.Prelude.{ℕ, Bool, false, ◌||◌, ◌==◌, List, [], ◌∷◌}

-- whether the first character is `+` or `-`
abbrev pub begins_with_sign : List ℕ → Bool
begins_with_sign [] = false
begins_with_sign (c ∷ cs) = (c == 43) || (c == 45)
