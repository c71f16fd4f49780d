-- Texts in two vectors.
use Rattle.std.proofs.Common.{◌≡◌, ℕ, ◌+◌, ◌-◌, ◌*◌, ◌/◌, ◌%◌, ◌^◌, ◌<◌, ◌≤◌, ◌&&◌, ◌||◌, ◌↔◌, ℤ, pos, negsuc, ◌-ℤ◌, Bool, true, false, cond, eqb, ltb, leb, List, [], ◌∷◌, ◌++◌, length, get_or, map, take, drop, replicate, refl, sym, ap, ◌∙◌, inl, inr, arith, w8, lt-ltb, le-ltb, ltb-true, ltb-false, leb-true, leb-false, length-append, length-take-le, length-drop, get_or-take}
use Rattle.std.proofs.lemmas.Bool.{cases_lt, le-leb, lt-leb}
use Rattle.std.proofs.lemmas.List.{take_at, drop_at, take-append-drop, drop_all, get_or-replicate, length-map, get_or_append_left, get_or-append_right}
use Rattle.std.proofs.lemmas.List.FromFn.{get_or-range_with_len, length-range_with_len}
use Rattle.std.specs.List.{range_with_len}
use Rattle.std.proofs.lemmas.Simd.{get_or-sel_l, get_or-zip2, length-sel_l, tops_compared}
use Rattle.std.proofs.Math.Seq.{take-append-add}
use Rattle.std.proofs.lemmas.Slice.{take-put_mid, drop-put_mid}
use borrow.Rule.Slice.PartMut.{put_mid}
use lib.Lanes.{zip2, top, sel_l}
use Rattle.cob_decimal.specs.Decimal.{IsDigits, number_of, digit_at}
use Rattle.cob_decimal.proofs.DecimalLemmas.{digit_in, digit_beyond}
use Rattle.cob_codec_lanes.specs.Lanes.{AreTens, is_pick, picked_at}
use Rattle.cob_codec_lanes.specs.Readers.{AreWanted}
use Rattle.cob_codec_lanes.specs.Texts.{ArePlacesAt, digit_shown}
use Rattle.cob_codec_lanes.specs.declared.text.DigitPlaces.{DigitPlaces}
use Rattle.cob_codec_lanes.specs.Windows.{ArePowerPicks, half_lane, power_pick}
use Rattle.cob_codec_lanes.proofs.HalfLemmas.{all_digits}
use Rattle.cob_codec_lanes.proofs.WindowLemmas.{nothing_more}
use Rattle.cob_codec_lanes.proofs.WordLemmas.{at_splat, length_splat}

-- ---- two halves of a text

-- both halves are the same where all is
pub both_same : (a b c d : List ℕ) → length a ≡ length c → (a ++ b ≡ c ++ d) ↔ ((a ≡ c) × (b ≡ d))
both_same a b c d long = (
  λ e. (sym (take_at a b (length a) refl) ∙ ap (take (length a)) e ∙ take_at c d (length a) (sym long), sym (drop_at a b (length a) refl) ∙ ap (drop (length a)) e ∙ drop_at c d (length a) (sym long)),
  λ p. ap (λ x. x ++ b) p.0 ∙ ap (λ y. c ++ y) p.1,
)

-- the room behind sixteen bytes that are written
pub room_behind : (out first : List ℕ) → length first ≡ 16 → 16 ≤ length out → length (take (length (first ++ drop 16 out) - 16) (drop 16 (first ++ drop 16 out))) ≡ length out - 16
room_behind out first long more =
    let before : List ℕ = first ++ drop 16 out in
    let all : length before ≡ length out = omega (arith, length-append first (drop 16 out), length-drop 16 out) in
    length-take-le (length before - 16) (drop 16 before) (omega (arith, length-drop 16 before)) ∙ ap (λ n. n - 16) all

-- sixteen bytes are written, and then those behind them
pub both_written : (out front back first rest : List ℕ) → length front ≡ 16 → 16 < length out → length out ≤ 32 → length back ≡ 16 → first ≡ front → rest ≡ take (length out - 16) back
    → put_mid 16 (length (first ++ drop 16 out) - 16) (first ++ drop 16 out) rest ≡ take (length out) (front ++ back)
both_written out front back first rest front_long more room back_long first_is rest_is =
    let n : ℕ = length out in
    let before : List ℕ = first ++ drop 16 out in
    let k : ℕ = length before - 16 in
    let whole : List ℕ = put_mid 16 k before rest in
    let first_long : length first ≡ 16 = ap length first_is ∙ front_long in
    let all : length before ≡ n = omega (arith, length-append first (drop 16 out), length-drop 16 out) in
    let rest_long : length rest ≡ n - 16 = ap length rest_is ∙ length-take-le (n - 16) back (omega arith) in
    let written : take n whole ≡ take 16 before ++ rest = take-put_mid 16 k before rest n (omega arith) (omega arith) in
    let beyond : drop n whole ≡ drop n before = drop-put_mid 16 k before rest n (omega arith) (omega arith) (omega arith) in
    let none : drop n before ≡ [] = drop_all n before (omega arith) in
    let kept : take 16 before ≡ front = take_at first (drop 16 out) 16 first_long ∙ first_is in
    let sum : length front + (n - 16) ≡ n = omega arith in
    sym (take-append-drop n whole) ∙ ap (λ xs. xs ++ drop n whole) written ∙ ap (λ xs. (take 16 before ++ rest) ++ xs) (beyond ∙ none) ∙ nothing_more (take 16 before ++ rest)
    ∙ ap (λ xs. xs ++ rest) kept ∙ ap (λ xs. front ++ xs) rest_is ∙ sym (take-append-add front back (n - 16)) ∙ ap (λ m. take m (front ++ back)) sum

-- ---- digits that bytes show

abbrev pub less : ℕ → ℕ → ℕ
less a b = cond (ltb a b) 255 0

abbrev pub minus_byte : ℕ → ℕ → ℕ
minus_byte a b = (a + (2 ^ 8 - b)) % 2 ^ 8

-- the greater of two, less one of them
greater_less : (x d : ℕ) → d < 256 → x < 256 → minus_byte (cond (ltb x d) d x) d ≡ x - d
greater_less x d small byte = go (ltb x d) refl
  where
    go : (t : Bool) → ltb x d ≡ t → minus_byte (cond t d x) d ≡ x - d
    go true e = omega (arith, ltb-true _ _ e)
    go false e = omega (arith, ltb-false _ _ e)

-- which of the lanes are less
tests : (v : List ℕ) (d : ℕ) → map (top 7) (zip2 less v (replicate 16 d)) ≡ zip2 ltb v (replicate 16 d)
tests v d = tops_compared w8 ltb v (replicate 16 d)

tests_long : (v : List ℕ) (d : ℕ) → length v ≡ 16 → length (map (top 7) (zip2 less v (replicate 16 d))) ≡ 16
tests_long v d long = length-map (zip2 less v (replicate 16 d)) (top 7) ∙ length_splat less v 16 d long

greater_long : (v : List ℕ) (d : ℕ) → length v ≡ 16 → length (sel_l (map (top 7) (zip2 less v (replicate 16 d))) (replicate 16 d) v) ≡ 16
greater_long v d long =
    let m = tests_long v d long in
    length-sel_l _ (replicate 16 d) v m (m ∙ sym long) ∙ m

greater_at : (v : List ℕ) (d i : ℕ) → length v ≡ 16 → i < 16
    → get_or (sel_l (map (top 7) (zip2 less v (replicate 16 d))) (replicate 16 d) v) i 0 ≡ cond (ltb (get_or v i 0) d) d (get_or v i 0)
greater_at v d i long lt =
    let ms : List Bool = map (top 7) (zip2 less v (replicate 16 d)) in
    let test : get_or ms i false ≡ ltb (get_or v i 0) d =
    ap (λ l. get_or l i false) (tests v d) ∙ get_or-zip2 ltb v (replicate 16 d) i 0 0 false (omega arith) (omega arith) ∙ ap (ltb (get_or v i 0)) (get_or-replicate 16 i d 0 lt) in
    get_or-sel_l ms (replicate 16 d) v i 0 (omega (arith, tests_long v d long)) (omega arith) (omega arith)
    ∙ ap (λ t. cond t (get_or (replicate 16 d) i 0) (get_or v i 0)) test
    ∙ ap (λ x. cond (ltb (get_or v i 0) d) x (get_or v i 0)) (get_or-replicate 16 i d 0 lt)

-- what is above a bound, by the greater of both
pub above_at : (v : List ℕ) (d i : ℕ) → d < 256 → length v ≡ 16 → i < 16 → get_or v i 0 < 256
    → get_or (zip2 minus_byte (sel_l (map (top 7) (zip2 less v (replicate 16 d))) (replicate 16 d) v) (replicate 16 d)) i 0 ≡ get_or v i 0 - d
above_at v d i small long lt byte =
    at_splat minus_byte (sel_l (map (top 7) (zip2 less v (replicate 16 d))) (replicate 16 d) v) 16 d i (greater_long v d long) lt
    ∙ ap (λ x. minus_byte x d) (greater_at v d i long lt) ∙ greater_less (get_or v i 0) d small byte

pub above_length : (v : List ℕ) (d : ℕ) → length v ≡ 16 → length (zip2 minus_byte (sel_l (map (top 7) (zip2 less v (replicate 16 d))) (replicate 16 d) v) (replicate 16 d)) ≡ 16
above_length v d long = length_splat minus_byte (sel_l (map (top 7) (zip2 less v (replicate 16 d))) (replicate 16 d) v) 16 d (greater_long v d long)

abbrev pub table : List ℕ
table = 0 ∷ 1 ∷ 2 ∷ 3 ∷ 4 ∷ 5 ∷ 6 ∷ 7 ∷ 8 ∷ 9 ∷ 0 ∷ 0 ∷ 0 ∷ 0 ∷ 0 ∷ 0 ∷ []

in_table : (k : ℕ) → k < 16 → get_or table k 0 ≡ cond (leb k 9) k 0
in_table k lt =
    elim (cases_lt k 10) [
      | inl digit ↦ get_or_append_left (range_with_len 0 10) (replicate 6 0) 0 k (omega (arith, length-range_with_len 0 10)) ∙ get_or-range_with_len 0 10 k 0 digit ∙ plain k ∙ ap (λ t. cond t k 0) (sym (le-leb _ _ (omega arith)))
      | inr none ↦ get_or-append_right (range_with_len 0 10) (replicate 6 0) 10 k 0 refl none ∙ get_or-replicate 6 (k - 10) 0 0 (omega arith) ∙ ap (λ t. cond t k 0) (sym (lt-leb _ _ (omega arith)))
    ]
  where
    plain : (n : ℕ) → 0 + n ≡ n
    plain n = omega arith

-- the digit of a byte, in the table
pub shown_by : (b j : ℕ) → b < 256 → j ≡ b - 240 → picked_at table j ≡ digit_shown b
shown_by b j byte is =
    let small : j < 16 = omega arith in
    ap (λ t. cond t (get_or table j 0) 0) (lt-ltb _ _ small) ∙ in_table j small ∙ ap (λ k. cond (leb k 9) k 0) is ∙ go (ltb 240 b) (leb b 249) (leb (b - 240) 9) refl refl refl
  where
    go : (p q r : Bool) → ltb 240 b ≡ p → leb b 249 ≡ q → leb (b - 240) 9 ≡ r → cond r (b - 240) 0 ≡ cond (p && q) (b - 240) 0
    go true true true x y z = refl
    go true true false x y z = absurd (omega (arith, ltb-true _ _ x, leb-true _ _ y, leb-false _ _ z))
    go true false true x y z = absurd (omega (arith, ltb-true _ _ x, leb-false _ _ y, leb-true _ _ z))
    go true false false x y z = refl
    go false q true x y z = omega (arith, ltb-false _ _ x)
    go false q false x y z = refl

pub above_pick : (b j : ℕ) → b < 256 → j ≡ b - 240 → is_pick j ≡ true
above_pick b j byte is = let small : j < 16 = omega arith in ap (λ t. t || leb 128 j) (lt-ltb _ _ small)

-- ---- digits that are kept

-- the lane of a power of ten, of so many digits in the first lanes
digit_placed : (count : ℕ) (lanes : List ℕ) (z : ℤ) → length lanes ≡ 16 → count ≤ 16 → IsDigits (take count lanes) → picked_at lanes (power_pick true 0 2 count z) ≡ digit_at (number_of (take count lanes)) z
digit_placed count lanes (negsuc q) long few valid = refl
digit_placed count lanes (pos q) long few valid =
    let ds : List ℕ = take count lanes in
    let many : length ds ≡ count = length-take-le count lanes (omega arith) in
    elim (cases_lt q count) [
      | inl lt ↦
          let i : ℕ = count - 1 - q in
          let e : ltb q count ≡ true = lt-ltb _ _ lt in
          let half : ℕ = 0 + 2 * i in
          let even : half % 2 ≡ 0 = omega arith in
          let byte : half / 2 ≡ i = omega arith in
          let here : i < count = omega arith in
          let inside : ltb i 16 ≡ true = lt-ltb _ _ (omega arith) in
          let place : i ≡ length ds - 1 - q = omega arith in
          ap (λ b. picked_at lanes (cond {A = ℕ} b (half_lane true half) 128)) e
          ∙ ap (λ m. picked_at lanes (cond {A = ℕ} (eqb m 0) (half / 2) 128)) even
          ∙ ap (picked_at lanes) byte
          ∙ ap (λ b. cond {A = ℕ} b (get_or lanes i 0) 0) inside
          ∙ sym (get_or-take count lanes i 0 here)
          ∙ ap (λ k. get_or ds k 0) place
          ∙ sym (digit_in ds q valid (omega arith))
      | inr ge ↦
          let e : ltb q count ≡ false = le-ltb _ _ ge in
          ap (λ b. picked_at lanes (cond {A = ℕ} b (half_lane true (0 + 2 * (count - 1 - q))) 128)) e ∙ sym (digit_beyond ds q valid (omega arith))
    ]

-- the lanes that are kept of a number's digits are those that are wanted
pub kept_wanted : (count wanted : ℕ) (shift : ℤ) (lanes picks kept : List ℕ) → length lanes ≡ 16 → count ≤ 16 → wanted ≤ 16 → AreTens lanes → ArePowerPicks true 0 2 count wanted shift picks → length kept ≡ 16
    → ((i : ℕ) → i < 16 → get_or kept i 0 ≡ picked_at lanes (get_or picks i 0)) → AreWanted wanted shift (number_of (take count lanes)) kept
kept_wanted count wanted shift lanes picks kept long few room tens are kept_long each =
    let many : length (take count lanes) ≡ count = length-take-le count lanes (omega arith) in
    let valid : IsDigits (take count lanes) = all_digits (take count lanes) (λ k lt.
    let inside : k < count = omega arith in
    omega (arith, get_or-take count lanes k 0 inside, tens k (omega arith))) in
    record {
      long = kept_long;
      each = λ j lt. each j (omega arith) ∙ ap (picked_at lanes) (are.each j lt) ∙ digit_placed count lanes (pos (wanted - 1 - j) -ℤ shift) long few valid;
      rest = λ j ge lt. each j lt ∙ ap (picked_at lanes) (are.rest j ge lt);
    }

-- ---- bytes at given places

-- a lane picked of one half, and none of the other
front_alone : (front back : List ℕ) (p q j : ℕ) → length front ≡ 16 → get_or front j 0 < 256 → j < 16 → p ≡ j → q ≡ 128 → (picked_at front p + picked_at back q) % 256 ≡ get_or (front ++ back) j 0
front_alone front back p q j long byte lt first last =
    ap (λ k. (picked_at front k + picked_at back q) % 256) first
    ∙ ap (λ k. (picked_at front j + picked_at back k) % 256) last
    ∙ ap (λ t. (cond t (get_or front j 0) 0 + 0) % 256) (lt-ltb _ _ lt)
    ∙ cut (get_or front j 0) byte
    ∙ sym (get_or_append_left front back 0 j (omega arith))
  where
    cut : (x : ℕ) → x < 256 → (x + 0) % 256 ≡ x
    cut x small = omega arith

back_alone : (front back : List ℕ) (p q j : ℕ) → length front ≡ 16 → get_or back (j - 16) 0 < 256 → 16 ≤ j → j < 32 → p ≡ 128 → q ≡ j - 16 → (picked_at front p + picked_at back q) % 256 ≡ get_or (front ++ back) j 0
back_alone front back p q j long byte ge lt first last =
    ap (λ k. (picked_at front k + picked_at back q) % 256) first
    ∙ ap (λ k. (picked_at front 128 + picked_at back k) % 256) last
    ∙ ap (λ t. (0 + cond t (get_or back (j - 16) 0) 0) % 256) (lt-ltb _ _ (omega arith))
    ∙ cut (get_or back (j - 16) 0) byte
    ∙ sym (get_or-append_right front back 16 j 0 long ge)
  where
    cut : (x : ℕ) → x < 256 → (0 + x) % 256 ≡ x
    cut x small = omega arith

-- what is picked at the place of a digit
pub place_picked : (at front back : List ℕ) (places : DigitPlaces) (k : ℕ) → ArePlacesAt at places → length front ≡ 16 → ((i : ℕ) → get_or front i 0 < 256) → ((i : ℕ) → get_or back i 0 < 256) → k < length at
    → (picked_at front (get_or places.front.lanes k 0) + picked_at back (get_or places.back.lanes k 0)) % 256 ≡ get_or (front ++ back) (get_or at k 0) 0
place_picked at front back places k are long small_front small_back lt =
    let j : ℕ = get_or at k 0 in
    let few : length at ≤ 16 = are.few in
    let here : k < 16 = omega arith in
    let inside : ltb k (length at) ≡ true = lt-ltb _ _ lt in
    let first : get_or places.front.lanes k 0 ≡ cond (ltb j 16) j 128 = are.front k here ∙ ap (λ t. cond (t && ltb j 16) j 128) inside in
    let last : get_or places.back.lanes k 0 ≡ cond (leb 16 j) (j - 16) 128 = are.back k here ∙ ap (λ t. cond (t && leb 16 j) (j - 16) 128) inside in
    elim (cases_lt j 16) [
      | inl before ↦
          front_alone front back _ _ j long (small_front j) before (first ∙ ap (λ t. cond t j 128) (lt-ltb _ _ before)) (last ∙ ap (λ t. cond t (j - 16) 128) (lt-leb _ _ before))
      | inr from ↦
          back_alone front back _ _ j long (small_back (j - 16)) from (are.within k lt) (first ∙ ap (λ t. cond t j 128) (le-ltb _ _ from)) (last ∙ ap (λ t. cond t (j - 16) 128) (le-leb _ _ from))
    ]

-- nothing is picked behind the digits
pub none_picked : (at front back : List ℕ) (places : DigitPlaces) (k : ℕ) → ArePlacesAt at places → length at ≤ k → k < 16
    → (picked_at front (get_or places.front.lanes k 0) + picked_at back (get_or places.back.lanes k 0)) % 256 ≡ 0
none_picked at front back places k are ge lt =
    let j : ℕ = get_or at k 0 in
    let outside : ltb k (length at) ≡ false = le-ltb _ _ ge in
    let first : get_or places.front.lanes k 0 ≡ 128 = are.front k lt ∙ ap (λ t. cond (t && ltb j 16) j 128) outside in
    let last : get_or places.back.lanes k 0 ≡ 128 = are.back k lt ∙ ap (λ t. cond (t && leb 16 j) (j - 16) 128) outside in
    ap (λ p. (picked_at front p + picked_at back (get_or places.back.lanes k 0)) % 256) first ∙ ap (λ q. (picked_at front 128 + picked_at back q) % 256) last
