-- Zoned decimal with a separate sign: a byte of its own before or behind the digits.
use Rattle.std.specs.Prelude.{◌≡◌, ℕ, if◌then◌else◌, List, [], ◌∷◌, ◌++◌, length, Bool}
use Rattle.cob_cp037.specs.Named.{minus_byte, plus_byte}
use Rattle.cob_decimal.specs.Decimal.{IsDigits}
use Rattle.cob_codec.specs.Sign.{IsSigned}
use Rattle.cob_codec.specs.Zoned.{digit_bytes}

-- The byte of the sign: a plus or a minus.
abbrev pub sign_byte : Bool → ℕ
sign_byte minus = if minus then minus_byte else plus_byte

-- The digits in zone F, the sign's byte behind them, or before them where it is leading.
abbrev pub separate_form : Bool → Bool → List ℕ → List ℕ
separate_form leading minus digits =
    if leading then sign_byte minus ∷ digit_bytes digits else digit_bytes digits ++ sign_byte minus ∷ []

-- The bytes are digits with a separate sign, and stand for the digits with this sign.
pub record IsSignedSeparately (count : ℕ) (leading : Bool) (bytes : List ℕ) (negative : Bool) (digits : List ℕ) : Type 0 where
  pub count_is : length digits ≡ count
  pub valid : IsDigits digits
  pub minus : Bool
  pub text : bytes ≡ separate_form leading minus digits
  pub sign : IsSigned minus digits negative
