-- Zoned bytes whose half bytes all suit represent a number.
use Rattle.std.proofs.Common.{◌≡◌, ◌≢◌, ℕ, ◌+◌, ◌*◌, ◌/◌, ◌%◌, ◌<◌, ◌==◌, Bool, true, false, List, length, get_or, map, refl, sym, subst, arith, eqb-true}
use Rattle.std.proofs.lemmas.Bool.{ltb-true}
use Rattle.std.proofs.lemmas.List.{length-map, get_or-map}
use Rattle.cob_codec.specs.Packed.{halves}
use Rattle.cob_codec.specs.Sign.{sign_meaning, sign_place}
use Rattle.cob_codec.specs.Zoned.{IsZoned, low_digit}
use Rattle.cob_codec.specs.declared.flaw.ExpectedPart.{ExpectedPart}
use Rattle.cob_codec.specs.declared.flaw.ExpectedPart.TheVariants.{Digit, Sign, Zone}
use Rattle.cob_codec.specs.Flaws.{AllSuit, suits, zoned_wanted}
use Rattle.cob_codec.proofs.HalfLemmas.{digits_from, either_is, high_is, length-halves, low_is, signed_so}

same_test : (a b : ℕ) → a ≡ b → (a == b) ≡ true
same_test a b is = grind (arith, is)

other_test : (a b : ℕ) → a ≢ b → (a == b) ≡ false
other_test a b other = grind (arith, other)

digit_wanted : (place k at : ℕ) → at ≡ 2 * k + 1 → zoned_wanted place at ≡ Digit
digit_wanted place k at is = rw (same_test (at % 2) 1 (omega (arith, is))) refl

sign_wanted : (place k at : ℕ) → at ≡ 2 * k → k ≡ place → zoned_wanted place at ≡ Sign
sign_wanted place k at is there = rw (other_test (at % 2) 1 (λ e. omega (arith, is, e)), same_test (at / 2) place (omega (arith, is, there))) refl

zone_wanted : (place k at : ℕ) → at ≡ 2 * k → k ≢ place → zoned_wanted place at ≡ Zone
zone_wanted place k at is other = rw (other_test (at % 2) 1 (λ e. omega (arith, is, e)), other_test (at / 2) place (λ e. other (omega (arith, is, e)))) refl

suits_as : (signed : Bool) (w v : ExpectedPart) (g h : ℕ) → w ≡ v → g ≡ h → suits signed w g ≡ true → suits signed v h ≡ true
suits_as signed w v g h same there so = subst (λ (x : ExpectedPart). suits signed x h ≡ true) same (subst (λ (n : ℕ). suits signed w n ≡ true) there so)

place_within : (signed leading : Bool) (count : ℕ) → 0 < count → sign_place signed leading count < count
place_within true true count some = some
place_within true false count some = omega (arith, some)
place_within false true count some = omega (arith, some)
place_within false false count some = omega (arith, some)

pub zoned_from : (count : ℕ) (signed leading : Bool) (bytes : List ℕ) → 0 < count → length bytes ≡ count
    → AllSuit signed (zoned_wanted (sign_place signed leading (length bytes))) (halves bytes)
    → (negative : Bool) × (digits : List ℕ) × IsZoned count signed leading bytes negative digits
zoned_from count signed leading bytes some size all =
    let hs : List ℕ = halves bytes in
    let place : ℕ = sign_place signed leading count in
    let all_so : AllSuit signed (zoned_wanted place) hs = subst (λ (n : ℕ). AllSuit signed (zoned_wanted (sign_place signed leading n)) hs) size all in
    let low : (k : ℕ) → k < length bytes → get_or bytes k 0 % 16 < 10 = λ k lt.
    ltb-true (get_or bytes k 0 % 16) 10
    (suits_as signed (zoned_wanted place (2 * k + 1)) Digit (get_or hs (2 * k + 1) 0) (get_or bytes k 0 % 16) (digit_wanted place k (2 * k + 1) refl) (low_is bytes k (2 * k + 1) refl lt)
    (all_so (2 * k + 1) (omega (arith, lt, length-halves bytes)))) in
    let within : place < length bytes = omega (arith, size, place_within signed leading count some) in
    let (minus, meaning) = either_is (sign_meaning signed (get_or bytes place 0 / 16))
    (suits_as signed (zoned_wanted place (2 * place)) Sign (get_or hs (2 * place) 0) (get_or bytes place 0 / 16) (sign_wanted place place (2 * place) refl refl) (high_is bytes place (2 * place) refl within)
    (all_so (2 * place) (omega (arith, within, length-halves bytes)))) in
    let ds : List ℕ = map low_digit bytes in
    let (negative, sign) = signed_so minus ds in (
      negative,
      ds,
      record {
        long = size;
        low_halves = refl;
        valid = digits_from ds (λ k lt. let there : k < length bytes = omega (arith, lt, length-map bytes low_digit) in
            subst (λ (d : ℕ). d < 10) (sym (get_or-map low_digit bytes k 0 0 there)) (low k there));
        zones = λ k lt other. let there : k < length bytes = omega (arith, lt, size) in
            eqb-true (get_or bytes k 0 / 16) 15
            (suits_as signed (zoned_wanted place (2 * k)) Zone (get_or hs (2 * k) 0) (get_or bytes k 0 / 16) (zone_wanted place k (2 * k) refl other) (high_is bytes k (2 * k) refl there)
            (all_so (2 * k) (omega (arith, there, length-halves bytes))));
        minus = minus;
        meaning = meaning;
        sign = sign;
      },
    )
