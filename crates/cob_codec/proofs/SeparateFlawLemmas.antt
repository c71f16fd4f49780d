-- Bytes with a separate sign that all suit represent a number.
use Rattle.std.proofs.Common.{◌≡◌, ◌≢◌, ◌∙◌, ℕ, zero, suc, ◌+◌, ◌-◌, ◌<◌, ◌≤◌, ◌==◌, ◌&&◌, Bool, true, false, List, [], ◌∷◌, ◌++◌, length, get_or, take, map, refl, sym, ap, subst, arith, eqb-true}
use Rattle.std.specs.Prelude.{nat_le, if◌then◌else◌}
use Rattle.std.proofs.lemmas.Bool.Decides.{nat_tests}
use Rattle.std.proofs.lemmas.List.{length-map, length-take}
use Rattle.cob_cp037.specs.Named.{minus_byte, plus_byte}
use Rattle.cob_decimal.specs.Decimal.{IsDigits}
use Rattle.cob_codec.specs.Separate.{IsSignedSeparately, sign_byte}
use Rattle.cob_codec.specs.Zoned.{digit_bytes}
use Rattle.cob_codec.specs.declared.flaw.ExpectedPart.{ExpectedPart}
use Rattle.cob_codec.specs.declared.flaw.ExpectedPart.TheVariants.{DigitByte, SignByte}
use Rattle.cob_codec.specs.Flaws.{AllSuit, separate_wanted, suits}
use Rattle.cob_codec.proofs.HalfLemmas.{signed_so}
use Rattle.cob_codec.proofs.PackedFlawLemmas.{last_one}

-- ---- a byte

in_range : (b : ℕ) → (nat_le 240 b && nat_le b 249) ≡ true → (240 ≤ b) × (b ≤ 249)
in_range b h = grind (arith, nat_tests)

minus_of : (t : Bool) (b : ℕ) → (b == plus_byte) ≡ t → (if t then true else b == minus_byte) ≡ true → (minus : Bool) × (b ≡ sign_byte minus)
minus_of true b is h = (false, eqb-true b plus_byte is)
minus_of false b is h = (true, eqb-true b minus_byte h)

sign_is : (signed : Bool) (b : ℕ) → suits signed SignByte b ≡ true → (minus : Bool) × (b ≡ sign_byte minus)
sign_is signed b h = minus_of (b == plus_byte) b refl h

-- ---- bytes of digits

-- these bytes are digits
abbrev AreDigitBytes : List ℕ → Type 0
AreDigitBytes bs = (k : ℕ) → k < length bs → (240 ≤ get_or bs k 0) × (get_or bs k 0 ≤ 249)

abbrev digits_of : List ℕ → List ℕ
digits_of bs = map (λ b. b - 240) bs

digit_valid : (bs : List ℕ) → AreDigitBytes bs → IsDigits (digits_of bs)
digit_valid [] h = tt
digit_valid (b ∷ bs) h = let here = h 0 (omega arith) in (omega (arith, here.0, here.1), digit_valid bs (λ k lt. h (suc k) (omega (arith, lt))))

digits_same : (bs : List ℕ) → AreDigitBytes bs → bs ≡ digit_bytes (digits_of bs)
digits_same [] h = refl
digits_same (b ∷ bs) h =
    let here = h 0 (omega arith) in
    let first : b ≡ 240 + (b - 240) = omega (arith, here.0) in
    ap (λ (x : ℕ). x ∷ bs) first ∙ ap (λ (t : List ℕ). (240 + (b - 240)) ∷ t) (digits_same bs (λ k lt. h (suc k) (omega (arith, lt))))

same_test : (a b : ℕ) → a ≡ b → (a == b) ≡ true
same_test a b is = grind (arith, is)

other_test : (a b : ℕ) → a ≢ b → (a == b) ≡ false
other_test a b other = grind (arith, other)

digit_at : (signed : Bool) (place k b : ℕ) → k ≢ place → suits signed (separate_wanted place k) b ≡ true → (240 ≤ b) × (b ≤ 249)
digit_at signed place k b other h =
    in_range b (subst (λ (w : ExpectedPart). suits signed w b ≡ true) (ap (λ (t : Bool). if t then SignByte else DigitByte) (other_test k place other)) h)

sign_at : (signed : Bool) (place k b : ℕ) → k ≡ place → suits signed (separate_wanted place k) b ≡ true → (minus : Bool) × (b ≡ sign_byte minus)
sign_at signed place k b is h =
    sign_is signed b (subst (λ (w : ExpectedPart). suits signed w b ≡ true) (ap (λ (t : Bool). if t then SignByte else DigitByte) (same_test k place is)) h)

get_front : (n : ℕ) (bs : List ℕ) (k : ℕ) → k < n → n ≤ length bs → get_or (take n bs) k 0 ≡ get_or bs k 0
get_front zero bs k lt le = absurd (omega (arith, lt))
get_front (suc n) [] k lt le = absurd (omega (arith, le))
get_front (suc n) (b ∷ bs) zero lt le = refl
get_front (suc n) (b ∷ bs) (suc k) lt le = get_front n bs k (omega (arith, lt)) (omega (arith, le))

-- ---- the number

trailing : (count : ℕ) (signed : Bool) (bytes : List ℕ) → length bytes ≡ count + 1 → AllSuit signed (separate_wanted count) bytes
    → (negative : Bool) × (digits : List ℕ) × IsSignedSeparately count false bytes negative digits
trailing count signed bytes size all =
    let front : List ℕ = take count bytes in
    let bs_are : AreDigitBytes front = λ k lt. let below : k < count = omega (arith, lt, length-take count bytes) in
    subst (λ (b : ℕ). (240 ≤ b) × (b ≤ 249)) (sym (get_front count bytes k below (omega (arith, size))))
    (digit_at signed count k (get_or bytes k 0) (λ e. omega (arith, below, e)) (all k (omega (arith, below, size)))) in
    let (minus, sign_is) = sign_at signed count count (get_or bytes count 0) refl (all count (omega (arith, size))) in
    let (negative, sign) = signed_so minus (digits_of front) in (
      negative,
      digits_of front,
      record {
        count_is = omega (arith, size, length-map front (λ b. b - 240), length-take count bytes);
        valid = digit_valid front bs_are;
        minus = minus;
        text = last_one count bytes size ∙ ap (λ (xs : List ℕ). xs ++ get_or bytes count 0 ∷ []) (digits_same front bs_are)
            ∙ ap (λ (b : ℕ). digit_bytes (digits_of front) ++ b ∷ []) sign_is;
        sign = sign;
      },
    )

leading_first : (count : ℕ) (signed : Bool) (bytes : List ℕ) → length bytes ≡ count + 1 → AllSuit signed (separate_wanted 0) bytes
    → (negative : Bool) × (digits : List ℕ) × IsSignedSeparately count true bytes negative digits
leading_first count signed [] size all = absurd (omega (arith, size))
leading_first count signed (b ∷ bs) size all =
    let bs_are : AreDigitBytes bs = λ k lt. digit_at signed 0 (suc k) (get_or bs k 0) (λ e. omega (arith, e)) (all (suc k) (omega (arith, lt))) in
    let (minus, sign_is) = sign_at signed 0 0 b refl (all 0 (omega arith)) in
    let (negative, sign) = signed_so minus (digits_of bs) in (
      negative,
      digits_of bs,
      record {
        count_is = omega (arith, size, length-map bs (λ b. b - 240));
        valid = digit_valid bs bs_are;
        minus = minus;
        text = ap (λ (x : ℕ). x ∷ bs) sign_is ∙ ap (λ (t : List ℕ). sign_byte minus ∷ t) (digits_same bs bs_are);
        sign = sign;
      },
    )

pub separate_from : (count : ℕ) (signed leading : Bool) (bytes : List ℕ) → length bytes ≡ count + 1
    → AllSuit signed (separate_wanted (if leading then 0 else length bytes - 1)) bytes
    → (negative : Bool) × (digits : List ℕ) × IsSignedSeparately count leading bytes negative digits
separate_from count signed true bytes size all = leading_first count signed bytes size all
separate_from count signed false bytes size all =
    let last : length bytes - 1 ≡ count = omega (arith, size) in
    trailing count signed bytes size (subst (λ (n : ℕ). AllSuit signed (separate_wanted n) bytes) last all)
