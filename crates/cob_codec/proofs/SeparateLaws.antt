-- The laws of zoned decimal with a separate sign, proved.
use Rattle.std.proofs.Common.{◌≡◌, ℕ, ◌+◌, ◌<◌, List, [], ◌∷◌, length, refl, sym, ap, ◌∙◌, arith, Bool, true, false, IsTrue, length-append}
use Rattle.std.proofs.lemmas.List.{length-map, same_from_push}
use Rattle.cob_decimal.specs.Decimal.{number_of}
use Rattle.cob_codec.specs.Sign.{IsHeld}
use Rattle.cob_codec.proofs.SignLemmas.{same_sign, held_sign}
use Rattle.cob_codec.specs.Zoned.{digit_bytes}
use Rattle.cob_codec.specs.Separate.{sign_byte, separate_form, IsSignedSeparately}

pub stored_length : (count : ℕ) (leading negative : Bool) (ds : List ℕ) → length ds ≡ count → length (separate_form leading negative ds) ≡ count + 1
stored_length count true negative ds many = omega (arith, length-map ds (λ d. 240 + d))
stored_length count false negative ds many = omega (arith, length-append (digit_bytes ds) (sign_byte negative ∷ []), length-map ds (λ d. 240 + d))

pub heads : (a b : ℕ) (u v : List ℕ) → a ∷ u ≡ b ∷ v → a ≡ b
heads a b u v e = cc

pub tails : (a b : ℕ) (u v : List ℕ) → a ∷ u ≡ b ∷ v → u ≡ v
tails a b u v e = cc

-- the bytes of digits are those of no other digits
pub same_digits : (ds es : List ℕ) → digit_bytes ds ≡ digit_bytes es → ds ≡ es
same_digits [] [] e = refl
same_digits [] (y ∷ ys) e = absurd (cc)
same_digits (x ∷ xs) [] e = absurd (cc)
same_digits (x ∷ xs) (y ∷ ys) e =
    let head : 240 + x ≡ 240 + y = heads (240 + x) (240 + y) (digit_bytes xs) (digit_bytes ys) e in
    let first : x ≡ y = omega arith in
    let rest : xs ≡ ys = same_digits xs ys (tails (240 + x) (240 + y) (digit_bytes xs) (digit_bytes ys) e) in
    ap (λ z. z ∷ xs) first ∙ ap (λ zs. y ∷ zs) rest

pub same_minus : (a b : Bool) → sign_byte a ≡ sign_byte b → a ≡ b
same_minus true true e = refl
same_minus false false e = refl
same_minus true false e = absurd (omega arith)
same_minus false true e = absurd (omega arith)

same_form : (leading m n : Bool) (ds es : List ℕ) → separate_form leading m ds ≡ separate_form leading n es → (m ≡ n) × (ds ≡ es)
same_form true m n ds es e = (
  same_minus m n (heads (sign_byte m) (sign_byte n) (digit_bytes ds) (digit_bytes es) e),
  same_digits ds es (tails (sign_byte m) (sign_byte n) (digit_bytes ds) (digit_bytes es) e),
)
same_form false m n ds es e =
    let both = same_from_push (digit_bytes ds) (digit_bytes es) (sign_byte m) (sign_byte n) e in
    (same_minus m n both.1, same_digits ds es both.0)

pub one_number : (count : ℕ) (leading : Bool) (bytes : List ℕ) (a b : Bool) (ds es : List ℕ) → IsSignedSeparately count leading bytes a ds → IsSignedSeparately count leading bytes b es → (a ≡ b) × (ds ≡ es)
one_number count leading bytes a b ds es p q =
    let same = same_form leading p.minus q.minus ds es (sym p.text ∙ q.text) in
    let minus : p.minus ≡ q.minus = same.0 in
    let digits : ds ≡ es = same.1 in
    (same_sign a b q.minus (0 < number_of es) (rw (← digits, ← minus) p.sign) q.sign, digits)

pub held_separate : (count : ℕ) (signed leading : Bool) (bytes : List ℕ) (negative : Bool) (ds : List ℕ) → IsTrue signed → IsSignedSeparately count leading bytes negative ds → IsHeld count signed negative ds
held_separate count signed leading bytes negative ds is_signed p =
    record { count_is = p.count_is; valid = p.valid; minus = λ h. is_signed; nonzero = λ h. (p.sign.0 h).1 }

-- what was stored reads back
pub reads_back : (count : ℕ) (signed leading negative : Bool) (ds : List ℕ) → IsHeld count signed negative ds → IsSignedSeparately count leading (separate_form leading negative ds) negative ds
reads_back count signed leading negative ds number =
    record { count_is = number.count_is; valid = number.valid; minus = negative; text = refl; sign = held_sign negative ds number.nonzero }
