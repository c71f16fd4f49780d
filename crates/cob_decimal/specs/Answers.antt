-- Numbers as answers of a call.
use Rattle.std.specs.Prelude.{◌≡◌, ℕ, List, Bool, IsSomeAnd, Option}
use Rattle.cob_decimal.specs.declared.number.Number.{Number}

-- The answer is a number, and has this sign and these digits.
abbrev pub AnswersNumber : Option Number → Bool → List ℕ → Type 0
AnswersNumber answer negative digits = IsSomeAnd answer (λ v. (v.negative ≡ negative) × (v.digits ≡ digits))
