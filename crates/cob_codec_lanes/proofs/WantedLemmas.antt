-- Digits of a number that are wanted: they are the number, aligned, and a minus stays with them where they are not all 0.
use Rattle.std.proofs.Common.{◌≡◌, ◌↔◌, ◌&&◌, Bool, true, false, not, IsTrue, ltb, lt-ltb, ℕ, zero, suc, ◌+◌, ◌-◌, ◌*◌, ◌/◌, ◌%◌, ◌^◌, ◌<◌, ◌≤◌, ℤ, pos, negsuc, ◌-ℤ◌, ◌+ℤ◌, List, [], ◌∷◌, ◌++◌, length, get_or, take, refl, sym, ap, ◌∙◌, inl, inr, arith, length-take-le, get_or-take}
use Rattle.std.proofs.lemmas.List.{take_more}
use Rattle.std.proofs.lemmas.Bool.{cases_lt, cases_eq}
use Rattle.std.proofs.Math.Nat.{div-eq_of_lt, mod-eq_of_lt}
use Rattle.std.proofs.lemmas.Int.{ints}
use Rattle.cob_decimal.specs.Decimal.{IsDigits, number_of, digit_at, shifted, aligned}
use Rattle.cob_decimal.proofs.DecimalLemmas.{align_more, ten_pos}
use Rattle.cob_codec_lanes.specs.Lanes.{AreTens, AreZero}
use Rattle.cob_codec_lanes.specs.Readers.{AreWanted}
use Rattle.cob_codec_lanes.proofs.HalfLemmas.{all_digits}

pub digit_small : (a : ℕ) (z : ℤ) → digit_at a z < 10
digit_small a (pos q) = omega arith
digit_small a (negsuc q) = omega arith

last_units : (x m : ℕ) → x / 10 ^ (m - m) % 10 ^ m ≡ x % 10 ^ m
last_units x m = let none : m - m ≡ 0 = omega arith in ap (λ k. x / 10 ^ k % 10 ^ m) none ∙ ap (λ k. k % 10 ^ m) (one x)
  where
    one : (x : ℕ) → x / 1 ≡ x
    one x = omega arith

-- digits that are those of a number at powers of ten, the highest first
pub digits_front : (wanted : ℕ) (s : ℤ) (a : ℕ) (kept : List ℕ) → wanted ≤ length kept → ((j : ℕ) → j < wanted → get_or kept j 0 ≡ digit_at a (pos (wanted - 1 - j) -ℤ s)) → (i : ℕ) → i ≤ wanted
    → number_of (take i kept) ≡ shifted a s / 10 ^ (wanted - i) % 10 ^ i
digits_front wanted s a kept long each zero le = omega arith
digits_front wanted s a kept long each (suc i) le =
    let lt : i < wanted = omega arith in
    let inside : i < length kept = omega arith in
    let z : ℤ = pos (wanted - 1 - i) -ℤ s in
    let power : z +ℤ s ≡ pos (wanted - (i + 1)) = omega (arith, ints) in
    let more : take (i + 1) kept ≡ take i kept ++ get_or kept i 0 ∷ [] = take_more kept i 0 inside in
    let so_far : number_of (take i kept) ≡ shifted a s / 10 ^ (wanted - i) % 10 ^ i = digits_front wanted s a kept long each i (omega arith) in
    let next : number_of (take i kept ++ get_or kept i 0 ∷ []) ≡ shifted a s / 10 ^ (wanted - (i + 1)) % 10 ^ (i + 1) =
    align_more a s z (take i kept) wanted i (get_or kept i 0) lt so_far (each i lt) power in
    let suc_is : suc i ≡ i + 1 = omega arith in
    ap (λ j. number_of (take j kept)) suc_is ∙ ap number_of more ∙ next ∙ sym (ap (λ j. shifted a s / 10 ^ (wanted - j) % 10 ^ j) suc_is)

-- all of them together are the number, aligned
pub digits_aligned : (wanted : ℕ) (from to : ℤ) (a : ℕ) (kept : List ℕ) → wanted ≤ length kept → ((j : ℕ) → j < wanted → get_or kept j 0 ≡ digit_at a (pos (wanted - 1 - j) -ℤ (to -ℤ from)))
    → number_of (take wanted kept) ≡ aligned a from to wanted
digits_aligned wanted from to a kept long each = digits_front wanted (to -ℤ from) a kept long each wanted (omega arith) ∙ last_units (shifted a (to -ℤ from)) wanted

-- what is kept of a magnitude is the magnitude, aligned
pub wanted_aligned : (wanted : ℕ) (from to : ℤ) (a : ℕ) (kept : List ℕ) → wanted ≤ 16 → AreWanted wanted (to -ℤ from) a kept → number_of (take wanted kept) ≡ aligned a from to wanted
wanted_aligned wanted from to a kept room k = digits_aligned wanted from to a kept (omega (arith, k.long)) k.each

pub wanted_small : (wanted : ℕ) (s : ℤ) (a : ℕ) (kept : List ℕ) → AreWanted wanted s a kept → (i : ℕ) → i < 16 → get_or kept i 0 < 10
wanted_small wanted s a kept k i lt =
    elim (cases_lt i wanted) [
      | inl inside ↦ omega (arith, k.each i inside, digit_small a (pos (wanted - 1 - i) -ℤ s))
      | inr beyond ↦ omega (arith, k.rest i beyond lt)
    ]

pub wanted_valid : (wanted : ℕ) (s : ℤ) (a : ℕ) (kept : List ℕ) → wanted ≤ 16 → AreWanted wanted s a kept → IsDigits (take wanted kept)
wanted_valid wanted s a kept room k =
    all_digits (take wanted kept) (λ i lt.
    let long : length (take wanted kept) ≡ wanted = length-take-le wanted kept (omega (arith, k.long)) in
    let inside : i < wanted = omega arith in
    omega (arith, get_or-take wanted kept i 0 inside, wanted_small wanted s a kept k i (omega arith)))

pub wanted_tens : (wanted : ℕ) (s : ℤ) (a : ℕ) (kept : List ℕ) → AreWanted wanted s a kept → AreTens kept
wanted_tens wanted s a kept k = λ i lt. wanted_small wanted s a kept k i lt

-- ---- whether something is left

pub zeros_number : (ds : List ℕ) → ((k : ℕ) → k < length ds → get_or ds k 0 ≡ 0) → number_of ds ≡ 0
zeros_number [] h = refl
zeros_number (d ∷ ds) h =
    let first : d ≡ 0 = h 0 (omega arith) in
    let rest : number_of ds ≡ 0 = zeros_number ds (λ k lt. h (suc k) (omega arith)) in
    ap (λ x. x * 10 ^ length ds + number_of ds) first ∙ omega (arith, rest)

pub number_zeros : (ds : List ℕ) → number_of ds ≡ 0 → (k : ℕ) → k < length ds → get_or ds k 0 ≡ 0
number_zeros [] e k lt = absurd (omega arith)
number_zeros (zero ∷ ds) e zero lt = refl
number_zeros (zero ∷ ds) e (suc k) lt = number_zeros ds (omega arith) k (omega arith)
number_zeros (suc d ∷ ds) e k lt = absurd (omega (arith, ten_pos (length ds)))

pub wanted_zero : (wanted : ℕ) (s : ℤ) (a : ℕ) (kept : List ℕ) → wanted ≤ 16 → AreWanted wanted s a kept → AreZero kept ↔ (number_of (take wanted kept) ≡ 0)
wanted_zero wanted s a kept room k =
    let long : length (take wanted kept) ≡ wanted = length-take-le wanted kept (omega (arith, k.long)) in (
      λ z. zeros_number (take wanted kept) (λ i lt. (let inside : i < wanted = omega arith in get_or-take wanted kept i 0 inside ∙ z i (omega arith))),
      λ e i lt. elim (cases_lt i wanted) [
        | inl inside ↦ sym (get_or-take wanted kept i 0 inside) ∙ number_zeros (take wanted kept) e i (omega arith)
        | inr beyond ↦ k.rest i beyond lt
      ],
    )

pub none_aligned : (s : ℤ) (n : ℕ) → shifted 0 s % 10 ^ n ≡ 0
none_aligned (pos k) n = let none : 0 * 10 ^ k ≡ 0 = omega arith in ap (λ x. x % 10 ^ n) none ∙ mod-eq_of_lt (ten_pos n)
none_aligned (negsuc k) n = ap (λ x. x % 10 ^ n) (div-eq_of_lt (ten_pos (k + 1))) ∙ mod-eq_of_lt (ten_pos n)

-- the minus that is written
dead : (x y z : Bool) → (x && (y && false)) ≡ (y && (z && false))
dead true true true = refl
dead true true false = refl
dead true false z = refl
dead false true true = refl
dead false true false = refl
dead false false z = refl

live : (x y z : Bool) → x ≡ y → (x && (z && true)) ≡ (z && (y && true))
live true true true e = refl
live true true false e = refl
live true false z e = absurd (cc)
live false true z e = absurd (cc)
live false false true e = refl
live false false false e = refl

same_sign : (x y : Bool) (P : Type 0) → IsTrue x ↔ (IsTrue y × P) → P → x ≡ y
same_sign true true P h p = refl
same_sign true false P h p = sym ((h.0 refl).0)
same_sign false true P h p = h.1 (refl, p)
same_sign false false P h p = refl

pub minus_is : (minus negative zero_is signed : Bool) (a n : ℕ) → IsTrue negative ↔ (IsTrue minus × (0 < a)) → (a ≡ 0 → n ≡ 0) → IsTrue zero_is ↔ (n ≡ 0)
    → (negative && (signed && ltb 0 n)) ≡ (signed && (minus && not zero_is))
minus_is minus negative true signed a n sign none is =
    let e : n ≡ 0 = is.0 refl in
    ap (λ k. negative && (signed && ltb 0 k)) e ∙ dead negative signed minus
minus_is minus negative false signed a n sign none is =
    elim (cases_eq n 0) [
      | inl z ↦ (let no : IsTrue false = is.1 z in absurd (cc))
      | inr left ↦
          let some : 0 < n = omega arith in
          let t : ltb 0 n ≡ true = lt-ltb _ _ some in
          let sent : 0 < a = elim (cases_eq a 0) [ inl z ↦ absurd (left (none z)) | inr p ↦ omega arith ] in
          ap (λ b. negative && (signed && b)) t ∙ live negative minus signed (same_sign negative minus (0 < a) sign sent)
    ]
