-- Lemmas on whole numbers as digits.
use Rattle.std.proofs.Common.{◌≡◌, ℕ, ◌+◌, ◌-◌, ◌*◌, ◌^◌, ◌<◌, ◌≤◌, List, [], ◌∷◌, length, take, get_or, ap, ◌∙◌, arith, suc, zero}
use Rattle.std.proofs.Math.Nat.{pow-le-pow_right}
use Rattle.std.proofs.lemmas.List.{take_more, map-append, length-take-le}
use Rattle.cob_decimal.specs.Decimal.{IsDigits, number_of}
use Rattle.cob_decimal.specs.Literals.{AreDigits, digits_in}
use Rattle.cob_decimal.proofs.DecimalLemmas.{number_of-push, number_of-lt}
use Rattle.cob_decimal.proofs.LiteralLemmas.{length-digits_in}
use Rattle.cob_copybook_entries.specs.Meaning.{IsIntegerText}

digits_are : (cs : List ℕ) → AreDigits cs → IsDigits (digits_in cs)
digits_are [] h = tt
digits_are (c ∷ cs) h = (omega (arith, h.0.0, h.0.1), digits_are cs h.1)

digits_of_part : (i : ℕ) (cs : List ℕ) → AreDigits cs → AreDigits (take i cs)
digits_of_part zero cs h = tt
digits_of_part (suc i) [] h = tt
digits_of_part (suc i) (c ∷ cs) h = (h.0, digits_of_part i cs h.1)

-- each of the characters is a digit
pub digit_at_place : (cs : List ℕ) (i : ℕ) → AreDigits cs → i < length cs → (48 ≤ get_or cs i 0) × (get_or cs i 0 < 58)
digit_at_place [] i h lt = elim lt [ ]
digit_at_place (c ∷ cs) zero h lt = h.0
digit_at_place (c ∷ cs) (suc i) h lt = digit_at_place cs i h.1 (omega (arith, lt))

-- the number with one more digit
pub one_digit_more : (cs : List ℕ) (i : ℕ) → i < length cs → number_of (digits_in (take (i + 1) cs)) ≡ number_of (digits_in (take i cs)) * 10 + (get_or cs i 0 - 48)
one_digit_more cs i lt =
    ap (λ t. number_of (digits_in t)) (take_more cs i 0 lt)
    ∙ ap number_of (map-append (λ c. c - 48) (take i cs) (get_or cs i 0 ∷ []))
    ∙ number_of-push (digits_in (take i cs)) (get_or cs i 0 - 48)

-- eight digits spell a number below a hundred million
pub eight_digits : (cs : List ℕ) (i : ℕ) → AreDigits cs → i < length cs → length cs ≤ 9 → number_of (digits_in (take i cs)) < 100000000
eight_digits cs i h lt most =
    let few : length (take i cs) ≡ i = length-take-le i cs (omega arith) in
    let short : length (digits_in (take i cs)) ≤ 8 = omega (arith, length-digits_in (take i cs), few) in
    let power : 10 ^ length (digits_in (take i cs)) ≤ 10 ^ 8 = pow-le-pow_right (omega arith) short in
    omega (arith, number_of-lt (digits_in (take i cs)) (digits_are (take i cs) (digits_of_part i cs h)), power)

-- two digits spell a number below a hundred
pub two_digits : (cs : List ℕ) (n : ℕ) → IsIntegerText 2 cs n → n < 100
two_digits cs n h =
    let short : length (digits_in cs) ≤ 2 = omega (arith, length-digits_in cs, h.few) in
    let power : 10 ^ length (digits_in cs) ≤ 10 ^ 2 = pow-le-pow_right (omega arith) short in
    omega (arith, h.value, number_of-lt (digits_in cs) (digits_are cs h.digits), power)
