-- Numeric literals by their parts, however many digits they have.
use Rattle.std.specs.Prelude.{◌≡◌, ◌⊎◌, ℕ, ◌+◌, ◌<◌, ◌≤◌, Bool, true, false, ◌==◌, if◌then◌else◌, List, [], ◌∷◌, length, Option, Some, None}
use Rattle.cob_decimal.specs.Decimal.{IsDigits}
use Rattle.cob_decimal.specs.Literals.{Literal, literal_text, AreDigits}

-- the parts are those of a numeric literal, of however many digits: there is one at least
pub record HasParts (l : Literal) : Type 0 where
  pub whole : IsDigits l.whole
  pub fraction : IsDigits l.fraction
  pub some : 0 < length l.whole + length l.fraction

-- the word is the numeric literal with these parts: `[+ or -] digits [. digits]` or `[+ or -] . digits`
abbrev pub IsLiteralOf : Literal → List ℕ → Type 0
IsLiteralOf l text = HasParts l × (text ≡ literal_text l)

-- how many digits a numeric literal has
abbrev pub count_digits : Literal → ℕ
count_digits l = length l.whole + length l.fraction

-- the sign that a text begins with, if it does (true for a minus)
abbrev pub sign_of : List ℕ → Option Bool
sign_of [] = None
sign_of (c ∷ cs) = if c == 43 then Some false else if c == 45 then Some true else None

-- what stands behind the sign in front, or the whole text
abbrev pub behind_sign : List ℕ → List ℕ
behind_sign [] = []
behind_sign (c ∷ cs) = if c == 43 then cs else if c == 45 then cs else c ∷ cs

-- digits, and then nothing, or a point and one digit at least; where no digit is read yet, one stands there
abbrev pub IsUnsigned : Bool → List ℕ → Type 0
IsUnsigned some [] = some ≡ true
IsUnsigned some (c ∷ cs) = ((c ≡ 46) × ((0 < length cs) × AreDigits cs)) ⊎ ((48 ≤ c) × ((c < 58) × IsUnsigned true cs))
