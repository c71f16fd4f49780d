-- The pieces that texts of numbers are taken apart into, and made of. The contracts of helpers cite them.
use Rattle.std.specs.Prelude.{◌≢◌, ℕ, ◌+◌, ◌-◌, ◌<◌, ◌≤◌, ℤ, pos, negsuc, List, [], ◌∷◌, ◌++◌, length, replicate, Option, Some, None}
use Rattle.std.specs.List.{AllByRecursion}
use Rattle.cob_limits.specs.Limits.{most_digits}
use Rattle.cob_decimal.specs.Literals.{AreDigits}

-- No sign stands first.
abbrev pub HasNoSign : List ℕ → Type 0
HasNoSign [] = Unit {0}
HasNoSign (c ∷ cs) = (c ≢ 43) × (c ≢ 45)

-- No character is a point.
abbrev pub HasNoPoint : List ℕ → Type 0
HasNoPoint cs = AllByRecursion (λ c. c ≢ 46) cs

-- A point and the text behind it, if there is a point.
abbrev pub point_text : Option (List ℕ) → List ℕ
point_text None = []
point_text (Some cs) = 46 ∷ cs

-- What stands before a point, and what behind it if there is one, are those of a literal without its sign.
abbrev pub IsReadable : List ℕ → Option (List ℕ) → Type 0
IsReadable whole None = AreDigits whole × (0 < length whole) × (length whole ≤ most_digits)
IsReadable whole (Some fraction) =
    AreDigits whole × AreDigits fraction × (0 < length fraction) × (length whole + length fraction ≤ most_digits)

-- How many zeros stand between the last digit and the point.
abbrev pub zeros_of : ℤ → ℕ
zeros_of (pos k) = 0
zeros_of (negsuc k) = k + 1

-- No zero stands in front of these digits.
abbrev pub IsSignificant : List ℕ → Type 0
IsSignificant [] = Unit {0}
IsSignificant (d ∷ ds) = 0 < d

-- The whole part that digits without a zero in front and so many zeros more make; zero gets none.
abbrev pub whole_part : List ℕ → ℕ → List ℕ
whole_part [] z = 0 ∷ []
whole_part (d ∷ ds) z = d ∷ (ds ++ replicate z 0)

-- Digits behind the point, with zeros in front up to p places.
abbrev pub fraction_part : List ℕ → ℕ → List ℕ
fraction_part ds p = replicate (p - length ds) 0 ++ ds
