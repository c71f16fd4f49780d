-- Laws of digits and of texts, which upper crates build on.
use Rattle.std.specs.Prelude.{◌≡◌, ℕ, ◌+◌, ◌*◌, ◌^◌, ◌<◌, ℤ, pos, ◌-ℤ◌, ◌≤ℤ◌, List, ◌++◌, length, Bool}
use Rattle.cob_decimal.specs.Decimal.{IsDigits, number_of, aligned}
use Rattle.cob_decimal.specs.Literals.{Literal, IsLiteral, literal_text, IsNumberText, digits_behind_point, units_of}

-- Digits of one length that stand for one number are the same digits.
abbrev pub OneList : Type 0
OneList = (a b : List ℕ) → IsDigits a → IsDigits b → length a ≡ length b → number_of a ≡ number_of b → a ≡ b

-- So many digits stand for a number below that power of ten.
abbrev pub BelowPower : Type 0
BelowPower = (ds : List ℕ) → IsDigits ds → number_of ds < 10 ^ length ds

-- Digits that follow others move those to the left by as many places.
abbrev pub NumberOfJoined : Type 0
NumberOfJoined = (a b : List ℕ) → number_of (a ++ b) ≡ number_of a * 10 ^ length b + number_of b

-- A receiver that has at least as many digits on both sides of the point loses nothing: what it holds, put back, is what was sent.
abbrev pub KeepsMagnitude : Type 0
KeepsMagnitude =
    (a n m : ℕ) (from to : ℤ)
    → a < 10 ^ n
    → from ≤ℤ to
    → (pos n -ℤ from) ≤ℤ (pos m -ℤ to)
    → aligned (aligned a from to m) to from n ≡ a

-- A text is that of one literal at most.
abbrev pub OneLiteral : Type 0
OneLiteral = (l m : Literal) → IsLiteral l → IsLiteral m → literal_text l ≡ literal_text m → l ≡ m

-- A number is written in one way.
abbrev pub OneText : Type 0
OneText =
    (negative : Bool) (a : ℕ) (scale : ℤ) (t u : List ℕ)
    → IsNumberText negative a scale t
    → IsNumberText negative a scale u
    → t ≡ u

-- What is written tells the number: its sign, how many digits stand behind the point, and the magnitude in units of the last digit.
abbrev pub TextTells : Type 0
TextTells =
    (negative minus : Bool) (a b : ℕ) (scale other : ℤ) (t : List ℕ)
    → IsNumberText negative a scale t
    → IsNumberText minus b other t
    → (negative ≡ minus) × (digits_behind_point scale ≡ digits_behind_point other) × (units_of a scale ≡ units_of b other)
