-- Numbers that are not below zero.
use Rattle.std.specs.Prelude.{◌≡◌, ℕ, List, Bool, false}
use Rattle.cob_decimal.specs.Decimal.{number_of}

-- Bytes of this kind represent the number, which is not below zero.
abbrev pub IsNaturalOf : (List ℕ → Bool → List ℕ → Type 0) → List ℕ → ℕ → Type 0
IsNaturalOf represents bytes v = (digits : List ℕ) × represents bytes false digits × (v ≡ number_of digits)
