-- The order of numbers, by their digits from the highest on.
use Rattle.std.proofs.Common.{◌≡◌, ◌⊎◌, ℕ, zero, suc, ◌+◌, ◌-◌, ◌*◌, ◌/◌, ◌%◌, ◌^◌, ◌<◌, ◌≤◌, ℤ, pos, negsuc, ◌-ℤ◌, ◌<ℤ◌, Bool, true, false, List, length, get_or, refl, sym, ap, ◌∙◌, arith, inl, inr}
use Rattle.std.proofs.Math.Nat.{div-eq_of_lt, div-div-eq-div-mul, mul-le-mul_right, pow-le-pow_right}
use Rattle.std.proofs.lemmas.Nat.{pow-add, div-add-mod', le-div}
use Rattle.std.proofs.lemmas.Int.{ints}
use Rattle.std.proofs.lemmas.Cmp.{ranked, int_ranked}
use Rattle.std.proofs.Common.{subst}
use Rattle.cob_move_receive.specs.Sent.{Amount}
use Rattle.std.specs.Prelude.{int_lt}
use Rattle.std.specs.Ordering.{MatchOrdering}
use Rattle.std.specs.declared.cmp.Ordering.{Ordering}
use Rattle.std.specs.declared.cmp.Ordering.TheVariants.{Less, Equal, Greater}
use Rattle.std.specs.Ordering.{nat_cmp, int_cmp}
use Rattle.cob_decimal.specs.Decimal.{IsDigits, number_of, shifted}
use Rattle.cob_decimal.proofs.DecimalLemmas.{digit_beyond, digit_in, digit_shifted, number_of-lt, ten_more, ten_pos}
use Rattle.cob_move_condition.specs.Compared.{amount_order, finer_scale}
use Rattle.cob_codec.specs.Binary.{signed_number}

-- ---- orders of numbers

pub cmp_less : (x y : ℕ) → x < y → nat_cmp x y ≡ Less
cmp_less x y lt = go (nat_cmp x y) (ranked x y (nat_cmp x y) refl)
  where
    go : (o : Ordering) → MatchOrdering o (x < y) (x ≡ y) (y < x) → o ≡ Less
    go Less h = refl
    go Equal h = absurd (omega (arith, h, lt))
    go Greater h = absurd (omega (arith, h, lt))

pub cmp_equal : (x y : ℕ) → x ≡ y → nat_cmp x y ≡ Equal
cmp_equal x y e = go (nat_cmp x y) (ranked x y (nat_cmp x y) refl)
  where
    go : (o : Ordering) → MatchOrdering o (x < y) (x ≡ y) (y < x) → o ≡ Equal
    go Less h = absurd (omega (arith, h, e))
    go Equal h = refl
    go Greater h = absurd (omega (arith, h, e))

pub cmp_greater : (x y : ℕ) → y < x → nat_cmp x y ≡ Greater
cmp_greater x y gt = go (nat_cmp x y) (ranked x y (nat_cmp x y) refl)
  where
    go : (o : Ordering) → MatchOrdering o (x < y) (x ≡ y) (y < x) → o ≡ Greater
    go Less h = absurd (omega (arith, h, gt))
    go Equal h = absurd (omega (arith, h, gt))
    go Greater h = refl

-- ---- digits of a number in finer units

pub scaled_low : (ds : List ℕ) (k p : ℕ) → p < k → number_of ds * 10 ^ k / 10 ^ p % 10 ≡ 0
scaled_low ds k p lt =
    let q : ℕ = k - p - 1 in
    digit_shifted (number_of ds) (negsuc q) (pos k) p (omega (arith, ints))

pub scaled_in : (ds : List ℕ) (k p : ℕ) → IsDigits ds → k ≤ p → p - k < length ds → number_of ds * 10 ^ k / 10 ^ p % 10 ≡ get_or ds (length ds - 1 - (p - k)) 0
scaled_in ds k p is le within =
    digit_shifted (number_of ds) (pos (p - k)) (pos k) p (omega (arith, ints)) ∙ digit_in ds (p - k) is within

pub scaled_beyond : (ds : List ℕ) (k p : ℕ) → IsDigits ds → k ≤ p → length ds ≤ p - k → number_of ds * 10 ^ k / 10 ^ p % 10 ≡ 0
scaled_beyond ds k p is le beyond =
    digit_shifted (number_of ds) (pos (p - k)) (pos k) p (omega (arith, ints)) ∙ digit_beyond ds (p - k) is beyond

-- ---- numbers that agree down to a power of ten

-- a quotient is the coarser one and a digit
pub parts : (x p : ℕ) → x / 10 ^ p ≡ x / 10 ^ (p + 1) * 10 + x / 10 ^ p % 10
parts x p =
    let coarser : x / 10 ^ (p + 1) ≡ x / 10 ^ p / 10 = ap (λ n. x / n) (ten_more p) ∙ sym (div-div-eq-div-mul x (10 ^ p) 10) in
    sym (ap (λ n. n * 10 + x / 10 ^ p % 10) coarser ∙ div-add-mod' (x / 10 ^ p) 10)

pub agree_more : (x y p : ℕ) → x / 10 ^ (p + 1) ≡ y / 10 ^ (p + 1) → x / 10 ^ p % 10 ≡ y / 10 ^ p % 10 → x / 10 ^ p ≡ y / 10 ^ p
agree_more x y p e d = omega (arith, parts x p, parts y p, e, d)

quotient_upto : (x y w : ℕ) → 0 < w → y ≤ x → y / w ≤ x / w
quotient_upto x y w some le = le-div (y / w) x w some (omega (arith, le, div-add-mod' y w))

pub differ_less : (x y p : ℕ) → x / 10 ^ (p + 1) ≡ y / 10 ^ (p + 1) → x / 10 ^ p % 10 < y / 10 ^ p % 10 → x < y
differ_less x y p e d =
    let below : x / 10 ^ p < y / 10 ^ p = omega (arith, parts x p, parts y p, e, d) in
    elim (cases x y) [
      | inl lt ↦ lt
      | inr le ↦ absurd (omega (arith, below, quotient_upto x y (10 ^ p) (ten_pos p) le))
    ]
  where
    cases : (a b : ℕ) → (a < b) ⊎ (b ≤ a)
    cases a b = go (nat_cmp a b) (ranked a b (nat_cmp a b) refl)
      where
        go : (o : Ordering) → MatchOrdering o (a < b) (a ≡ b) (b < a) → (a < b) ⊎ (b ≤ a)
        go Less h = inl h
        go Equal h = inr (omega (arith, h))
        go Greater h = inr (omega (arith, h))

-- all digits of a number in finer units stand below
pub none_above : (ds : List ℕ) (k size : ℕ) → IsDigits ds → length ds + k ≤ size → number_of ds * 10 ^ k / 10 ^ size ≡ 0
none_above ds k size is fits =
    let top : (number_of ds + 1) * 10 ^ k ≤ 10 ^ length ds * 10 ^ k = mul-le-mul_right (10 ^ k) (omega (arith, number_of-lt ds is)) in
    let joined : 10 ^ (length ds + k) ≡ 10 ^ length ds * 10 ^ k = pow-add 10 (length ds) k in
    let room : 10 ^ (length ds + k) ≤ 10 ^ size = pow-le-pow_right (omega arith) fits in
    let small : number_of ds * 10 ^ k < 10 ^ size = omega (arith, top, joined, room, ten_pos k) in
    div-eq_of_lt small

-- ---- signs

order_pos : (a b : ℕ) → int_cmp (pos a) (pos b) ≡ nat_cmp a b
order_pos a b = go (int_cmp (pos a) (pos b)) (int_ranked (pos a) (pos b) (int_cmp (pos a) (pos b)) refl)
  where
    go : (o : Ordering) → MatchOrdering o (pos a <ℤ pos b) (pos a ≡ pos b) (pos b <ℤ pos a) → o ≡ nat_cmp a b
    go Less h = sym (cmp_less a b (omega (arith, ints, h)))
    go Equal h = sym (cmp_equal a b (omega (arith, ints, h)))
    go Greater h = sym (cmp_greater a b (omega (arith, ints, h)))

pub order_above : (a b : ℕ) → int_cmp (signed_number false a) (signed_number false b) ≡ nat_cmp a b
order_above a b = order_pos a b

order_neg : (a b : ℕ) → int_cmp (negsuc a) (negsuc b) ≡ nat_cmp (suc b) (suc a)
order_neg a b = go (int_cmp (negsuc a) (negsuc b)) (int_ranked (negsuc a) (negsuc b) (int_cmp (negsuc a) (negsuc b)) refl)
  where
    go : (o : Ordering) → MatchOrdering o (negsuc a <ℤ negsuc b) (negsuc a ≡ negsuc b) (negsuc b <ℤ negsuc a) → o ≡ nat_cmp (suc b) (suc a)
    go Less h = sym (cmp_less (suc b) (suc a) (omega (arith, ints, h)))
    go Equal h = sym (cmp_equal (suc b) (suc a) (omega (arith, ints, h)))
    go Greater h = sym (cmp_greater (suc b) (suc a) (omega (arith, ints, h)))

pub order_below : (a b : ℕ) → 0 < a → 0 < b → int_cmp (signed_number true a) (signed_number true b) ≡ nat_cmp b a
order_below zero b some other = absurd (omega (arith, some))
order_below (suc a) zero some other = absurd (omega (arith, other))
order_below (suc a) (suc b) some other = order_neg a b

pub order_minus_plus : (a b : ℕ) → 0 < a → int_cmp (signed_number true a) (signed_number false b) ≡ Less
order_minus_plus zero b some = absurd (omega (arith, some))
order_minus_plus (suc a) b some = go (int_cmp (negsuc a) (pos b)) (int_ranked (negsuc a) (pos b) (int_cmp (negsuc a) (pos b)) refl)
  where
    go : (o : Ordering) → MatchOrdering o (negsuc a <ℤ pos b) (negsuc a ≡ pos b) (pos b <ℤ negsuc a) → o ≡ Less
    go Less h = refl
    go Equal h = absurd (omega (arith, ints, h))
    go Greater h = absurd (omega (arith, ints, h))

pub order_plus_minus : (a b : ℕ) → 0 < b → int_cmp (signed_number false a) (signed_number true b) ≡ Greater
order_plus_minus a zero some = absurd (omega (arith, some))
order_plus_minus a (suc b) some = go (int_cmp (pos a) (negsuc b)) (int_ranked (pos a) (negsuc b) (int_cmp (pos a) (negsuc b)) refl)
  where
    go : (o : Ordering) → MatchOrdering o (pos a <ℤ negsuc b) (pos a ≡ negsuc b) (negsuc b <ℤ pos a) → o ≡ Greater
    go Less h = absurd (omega (arith, ints, h))
    go Equal h = absurd (omega (arith, ints, h))
    go Greater h = refl

-- ---- one more digit

pub less_at : (x y size step p a b : ℕ) → step < size → p ≡ size - 1 - step → x / 10 ^ (size - step) ≡ y / 10 ^ (size - step)
    → a ≡ x / 10 ^ p % 10 → b ≡ y / 10 ^ p % 10 → a < b → Less ≡ nat_cmp x y
less_at x y size step p a b within power so_far d e lt =
    let next : size - step ≡ p + 1 = omega (arith, within, power) in
    let agreed : x / 10 ^ (p + 1) ≡ y / 10 ^ (p + 1) = ap (λ (k : ℕ). x / 10 ^ k) (sym next) ∙ so_far ∙ ap (λ (k : ℕ). y / 10 ^ k) next in
    sym (cmp_less x y (differ_less x y p agreed (omega (arith, d, e, lt))))

pub greater_at : (x y size step p a b : ℕ) → step < size → p ≡ size - 1 - step → x / 10 ^ (size - step) ≡ y / 10 ^ (size - step)
    → a ≡ x / 10 ^ p % 10 → b ≡ y / 10 ^ p % 10 → b < a → Greater ≡ nat_cmp x y
greater_at x y size step p a b within power so_far d e lt =
    let next : size - step ≡ p + 1 = omega (arith, within, power) in
    let agreed : y / 10 ^ (p + 1) ≡ x / 10 ^ (p + 1) = ap (λ (k : ℕ). y / 10 ^ k) (sym next) ∙ sym so_far ∙ ap (λ (k : ℕ). x / 10 ^ k) next in
    sym (cmp_greater x y (differ_less y x p agreed (omega (arith, d, e, lt))))

pub same_at : (x y size step p a b : ℕ) → step < size → p ≡ size - 1 - step → x / 10 ^ (size - step) ≡ y / 10 ^ (size - step)
    → a ≡ x / 10 ^ p % 10 → b ≡ y / 10 ^ p % 10 → b ≤ a → a ≤ b → x / 10 ^ (size - (step + 1)) ≡ y / 10 ^ (size - (step + 1))
same_at x y size step p a b within power so_far d e below above =
    let next : size - step ≡ p + 1 = omega (arith, within, power) in
    let later : size - (step + 1) ≡ p = omega (arith, within, power) in
    let agreed : x / 10 ^ (p + 1) ≡ y / 10 ^ (p + 1) = ap (λ (k : ℕ). x / 10 ^ k) (sym next) ∙ so_far ∙ ap (λ (k : ℕ). y / 10 ^ k) next in
    ap (λ (k : ℕ). x / 10 ^ k) later ∙ agree_more x y p agreed (omega (arith, d, e, below, above)) ∙ ap (λ (k : ℕ). y / 10 ^ k) (sym later)

-- ---- the finer of two units

pub finer_either : (a b : ℤ) → finer_scale a b ≡ finer_scale b a
finer_either a b = go (int_lt a b) refl (int_lt b a) refl
  where
    go : (p : Bool) → int_lt a b ≡ p → (q : Bool) → int_lt b a ≡ q → finer_scale a b ≡ finer_scale b a
    go p e q f = grind (arith, ints)

-- numbers in the finer unit
pub plus_plus : (a b : ℕ) (s u : ℤ) (k j : ℕ) (o : Ordering) → finer_scale s u -ℤ s ≡ pos k → finer_scale u s -ℤ u ≡ pos j → o ≡ nat_cmp (a * 10 ^ k) (b * 10 ^ j)
    → o ≡ int_cmp (signed_number false (shifted a (finer_scale s u -ℤ s))) (signed_number false (shifted b (finer_scale s u -ℤ u)))
plus_plus a b s u k j o e f is =
    let g : finer_scale s u -ℤ u ≡ pos j = ap (λ (x : ℤ). x -ℤ u) (finer_either s u) ∙ f in
    is ∙ sym (ap (λ (x : ℤ). int_cmp (signed_number false (shifted a x)) (signed_number false (shifted b (finer_scale s u -ℤ u)))) e
    ∙ ap (λ (x : ℤ). int_cmp (signed_number false (shifted a (pos k))) (signed_number false (shifted b x))) g ∙ order_above (a * 10 ^ k) (b * 10 ^ j))

scaled_some : (a k : ℕ) → 0 < a → 0 < a * 10 ^ k
scaled_some a k some = omega (arith, mul-le-mul_right (10 ^ k) (one_upto a some), ten_pos k)
  where
    one_upto : (n : ℕ) → 0 < n → 1 ≤ n
    one_upto n h = omega (arith, h)

pub minus_minus : (a b : ℕ) (s u : ℤ) (k j : ℕ) (o : Ordering) → 0 < a → 0 < b → finer_scale s u -ℤ s ≡ pos k → finer_scale u s -ℤ u ≡ pos j → o ≡ nat_cmp (b * 10 ^ j) (a * 10 ^ k)
    → o ≡ int_cmp (signed_number true (shifted a (finer_scale s u -ℤ s))) (signed_number true (shifted b (finer_scale s u -ℤ u)))
minus_minus a b s u k j o some other e f is =
    let g : finer_scale s u -ℤ u ≡ pos j = ap (λ (x : ℤ). x -ℤ u) (finer_either s u) ∙ f in
    is ∙ sym (ap (λ (x : ℤ). int_cmp (signed_number true (shifted a x)) (signed_number true (shifted b (finer_scale s u -ℤ u)))) e
    ∙ ap (λ (x : ℤ). int_cmp (signed_number true (shifted a (pos k))) (signed_number true (shifted b x))) g ∙ order_below (a * 10 ^ k) (b * 10 ^ j) (scaled_some a k some) (scaled_some b j other))

pub minus_plus : (a b : ℕ) (s u : ℤ) (k : ℕ) → 0 < a → finer_scale s u -ℤ s ≡ pos k
    → Less ≡ int_cmp (signed_number true (shifted a (finer_scale s u -ℤ s))) (signed_number false (shifted b (finer_scale s u -ℤ u)))
minus_plus a b s u k some e =
    sym (ap (λ (x : ℤ). int_cmp (signed_number true (shifted a x)) (signed_number false (shifted b (finer_scale s u -ℤ u)))) e ∙ order_minus_plus (a * 10 ^ k) (shifted b (finer_scale s u -ℤ u)) (scaled_some a k some))

pub plus_minus : (a b : ℕ) (s u : ℤ) (j : ℕ) → 0 < b → finer_scale u s -ℤ u ≡ pos j
    → Greater ≡ int_cmp (signed_number false (shifted a (finer_scale s u -ℤ s))) (signed_number true (shifted b (finer_scale s u -ℤ u)))
plus_minus a b s u j some f =
    let g : finer_scale s u -ℤ u ≡ pos j = ap (λ (x : ℤ). x -ℤ u) (finer_either s u) ∙ f in
    sym (ap (λ (x : ℤ). int_cmp (signed_number false (shifted a (finer_scale s u -ℤ s))) (signed_number true (shifted b x))) g ∙ order_plus_minus (shifted a (finer_scale s u -ℤ s)) (b * 10 ^ j) (scaled_some b j some))

-- ---- a number below zero and one that isn't

pub below_above : (v w : Amount) (a b : ℤ) (k : ℕ) → a ≡ v.scale → b ≡ w.scale → v.negative ≡ true → w.negative ≡ false → 0 < number_of v.digits → finer_scale a b -ℤ a ≡ pos k
    → Less ≡ amount_order v w
below_above v w a b k p q e f some is =
    let own : finer_scale v.scale w.scale -ℤ v.scale ≡ pos k = subst (λ (s : ℤ). finer_scale s w.scale -ℤ s ≡ pos k) p (subst (λ (u : ℤ). finer_scale a u -ℤ a ≡ pos k) q is) in
    rw (e, f) (minus_plus (number_of v.digits) (number_of w.digits) v.scale w.scale k some own)

pub above_below : (v w : Amount) (a b : ℤ) (j : ℕ) → a ≡ v.scale → b ≡ w.scale → v.negative ≡ false → w.negative ≡ true → 0 < number_of w.digits → finer_scale b a -ℤ b ≡ pos j
    → Greater ≡ amount_order v w
above_below v w a b j p q e f some is =
    let own : finer_scale w.scale v.scale -ℤ w.scale ≡ pos j = subst (λ (s : ℤ). finer_scale w.scale s -ℤ w.scale ≡ pos j) p (subst (λ (u : ℤ). finer_scale u a -ℤ u ≡ pos j) q is) in
    rw (e, f) (plus_minus (number_of v.digits) (number_of w.digits) v.scale w.scale j some own)
