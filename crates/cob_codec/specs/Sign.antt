-- The sign of a number in storage: its codes, its place, and which is written.
use Rattle.std.specs.Prelude.{◌≡◌, ℕ, ◌-◌, ◌<◌, ◌==◌, ◌||◌, ◌&&◌, if◌then◌else◌, List, length, Option, Some, None, Bool, true, false, IsTrue, ◌↔◌}
use Rattle.cob_decimal.specs.Decimal.{IsDigits, number_of}

-- What a sign code, a half byte, says: plus, or, where it is true, minus. A, C, E and F are plus; in a signed item B and D
-- are minus. All else is no sign.
abbrev pub sign_meaning : Bool → ℕ → Option Bool
sign_meaning signed code =
    if code == 0xA || code == 0xC || code == 0xE || code == 0xF
    then Some false
    else (if signed && (code == 0xB || code == 0xD) then Some true else None)

-- The sign code that is written: C for plus and D for minus, and F in an item without sign.
abbrev pub sign_code : Bool → Bool → ℕ
sign_code signed negative = if signed then (if negative then 0xD else 0xC) else 0xF

-- The byte of the sign in an item of the given number of bytes: the last, or the first where the item is signed and its sign
-- leads. In an item without sign it is the last, whatever SIGN says.
abbrev pub sign_place : (signed leading : Bool) → ℕ → ℕ
sign_place signed leading count = if signed && leading then 0 else count - 1

-- A number of these digits is negative where its sign is minus and it is not zero: minus zero is zero.
abbrev pub IsSigned : Bool → List ℕ → Bool → Type 0
IsSigned minus digits negative = IsTrue negative ↔ (IsTrue minus × (0 < number_of digits))

-- A number that an item of the shape can hold: as many digits as the item has, and negative only where it is signed. Zero is
-- not negative.
pub record IsHeld (count : ℕ) (signed negative : Bool) (digits : List ℕ) : Type 0 where
  pub count_is : length digits ≡ count
  pub valid : IsDigits digits
  pub minus : IsTrue negative → IsTrue signed
  pub nonzero : IsTrue negative → 0 < number_of digits
