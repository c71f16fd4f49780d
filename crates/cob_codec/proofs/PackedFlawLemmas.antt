-- Packed bytes whose half bytes all suit represent a number.
use Rattle.std.proofs.Common.{◌≡◌, ◌∙◌, ℕ, zero, suc, ◌+◌, ◌/◌, ◌<◌, ◌≤◌, Bool, true, List, [], ◌∷◌, ◌++◌, length, get_or, take, drop, replicate, refl, ap, subst, arith, eqb-true}
use Rattle.std.proofs.lemmas.Bool.{lt-ltb, le-ltb, ltb-true}
use Rattle.std.proofs.lemmas.List.{length-take, length-drop}
use Rattle.cob_decimal.specs.Decimal.{IsDigits}
use Rattle.cob_codec.specs.Packed.{IsPacked, halves, pad_count}
use Rattle.cob_codec.specs.Sign.{sign_meaning}
use Rattle.cob_codec.specs.declared.flaw.ExpectedPart.{ExpectedPart}
use Rattle.cob_codec.specs.declared.flaw.ExpectedPart.TheVariants.{Zero, Digit, Sign}
use Rattle.cob_codec.specs.Flaws.{AllSuit, packed_wanted, suits}
use Rattle.cob_codec.proofs.HalfLemmas.{either_is, length-halves, signed_so}

-- ---- what is wanted of each half byte

zero_wanted : (count k : ℕ) → k < pad_count count → packed_wanted count k ≡ Zero
zero_wanted count k lt = rw (lt-ltb k (pad_count count) lt) refl

digit_wanted : (count k : ℕ) → pad_count count ≤ k → k < pad_count count + count → packed_wanted count k ≡ Digit
digit_wanted count k le lt = rw (le-ltb k (pad_count count) le, lt-ltb k (pad_count count + count) lt) refl

sign_wanted : (count k : ℕ) → k ≡ pad_count count + count → packed_wanted count k ≡ Sign
sign_wanted count k is = rw (le-ltb k (pad_count count) (omega (arith, is)), le-ltb k (pad_count count + count) (omega (arith, is))) refl

suits_as : (signed : Bool) (w v : ExpectedPart) (h : ℕ) → w ≡ v → suits signed w h ≡ true → suits signed v h ≡ true
suits_as signed w v h same so = subst (λ (x : ExpectedPart). suits signed x h ≡ true) same so

-- ---- the parts of a list

pub last_one : (count : ℕ) (hs : List ℕ) → length hs ≡ count + 1 → hs ≡ take count hs ++ get_or hs count 0 ∷ []
last_one count [] size = absurd (omega (arith, size))
last_one zero (h ∷ []) size = refl
last_one zero (h ∷ g ∷ hs) size = absurd (omega (arith, size))
last_one (suc n) (h ∷ hs) size = ap (λ (t : List ℕ). h ∷ t) (last_one n hs (omega (arith, size)))

cut : (pad count last : ℕ) (hs : List ℕ) → last ≡ pad + count → length hs ≡ pad + (count + 1) → ((k : ℕ) → k < pad → get_or hs k 0 ≡ 0)
    → hs ≡ replicate pad 0 ++ (take count (drop pad hs) ++ get_or hs last 0 ∷ [])
cut zero count last hs is size zeros =
    last_one count hs (omega (arith, size)) ∙ ap (λ (n : ℕ). take count hs ++ get_or hs n 0 ∷ []) (omega (arith, is))
cut (suc p) count last [] is size zeros = absurd (omega (arith, size))
cut (suc p) count zero (h ∷ hs) is size zeros = absurd (omega (arith, is))
cut (suc p) count (suc n) (h ∷ hs) is size zeros =
    let first : h ≡ 0 = zeros 0 (omega arith) in
    ap (λ (x : ℕ). x ∷ hs) first ∙ ap (λ (t : List ℕ). 0 ∷ t) (cut p count n hs (omega (arith, is)) (omega (arith, size)) (λ k lt. zeros (suc k) (omega (arith, lt))))

digits_front : (count : ℕ) (hs : List ℕ) → count ≤ length hs → ((k : ℕ) → k < count → get_or hs k 0 < 10) → IsDigits (take count hs)
digits_front zero [] le h = tt
digits_front zero (x ∷ hs) le h = tt
digits_front (suc n) [] le h = absurd (omega (arith, le))
digits_front (suc n) (x ∷ hs) le h = (h 0 (omega arith), digits_front n hs (omega (arith, le)) (λ k lt. h (suc k) (omega (arith, lt))))

digits_behind : (pad count : ℕ) (hs : List ℕ) → pad + count ≤ length hs → ((k : ℕ) → pad ≤ k → k < pad + count → get_or hs k 0 < 10) → IsDigits (take count (drop pad hs))
digits_behind zero count hs le h = digits_front count hs (omega (arith, le)) (λ k lt. h k (omega arith) (omega (arith, lt)))
digits_behind (suc p) zero [] le h = tt
digits_behind (suc p) (suc n) [] le h = absurd (omega (arith, le))
digits_behind (suc p) count (x ∷ hs) le h = digits_behind p count hs (omega (arith, le)) (λ k ge lt. h (suc k) (omega (arith, ge)) (omega (arith, lt)))

-- ---- the number

abbrev last_of : ℕ → ℕ
last_of count = pad_count count + count

pub packed_from : (count : ℕ) (signed : Bool) (bytes : List ℕ) → length bytes ≡ count / 2 + 1 → AllSuit signed (packed_wanted count) (halves bytes)
    → (negative : Bool) × (digits : List ℕ) × IsPacked count signed bytes negative digits
packed_from count signed bytes size all =
    let hs : List ℕ = halves bytes in
    let long : length hs ≡ pad_count count + (count + 1) = omega (arith, size, length-halves bytes) in
    let zeros : (k : ℕ) → k < pad_count count → get_or hs k 0 ≡ 0 = λ k lt.
    eqb-true (get_or hs k 0) 0 (suits_as signed (packed_wanted count k) Zero (get_or hs k 0) (zero_wanted count k lt) (all k (omega (arith, lt, long)))) in
    let digits : (k : ℕ) → pad_count count ≤ k → k < pad_count count + count → get_or hs k 0 < 10 = λ k ge lt.
    ltb-true (get_or hs k 0) 10 (suits_as signed (packed_wanted count k) Digit (get_or hs k 0) (digit_wanted count k ge lt) (all k (omega (arith, lt, long)))) in
    let (minus, meaning) = either_is (sign_meaning signed (get_or hs (last_of count) 0))
    (suits_as signed (packed_wanted count (last_of count)) Sign (get_or hs (last_of count) 0) (sign_wanted count (last_of count) refl) (all (last_of count) (omega (arith, long)))) in
    let ds : List ℕ = take count (drop (pad_count count) hs) in
    let (negative, sign) = signed_so minus ds in (
      negative,
      ds,
      record {
        count_is = omega (arith, long, length-take count (drop (pad_count count) hs), length-drop (pad_count count) hs);
        valid = digits_behind (pad_count count) count hs (omega (arith, long)) digits;
        code = get_or hs (last_of count) 0;
        text = cut (pad_count count) count (last_of count) hs refl long zeros;
        minus = minus;
        meaning = meaning;
        sign = sign;
      },
    )
