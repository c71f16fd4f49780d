-- Numbers in two vectors, and the digits that are kept of them.
use Rattle.std.proofs.Common.{◌≡◌, ℕ, ◌+◌, ◌-◌, ◌/◌, ◌%◌, ◌^◌, ◌<◌, ◌≤◌, ℤ, pos, negsuc, ◌-ℤ◌, ◌<ℤ◌, true, List, [], ◌∷◌, ◌++◌, length, get_or, sym, ap, ◌∙◌, inl, inr, arith, length-append}
use Rattle.std.proofs.lemmas.Bool.{cases_lt}
use Rattle.std.proofs.lemmas.Int.{ints}
use Rattle.std.proofs.lemmas.List.{get_or-append_right, get_or_append_left}
use Rattle.cob_decimal.specs.Decimal.{IsDigits, number_of, digit_at}
use Rattle.cob_decimal.proofs.DecimalLemmas.{digit_in, digit_beyond, digit_below, digit_from}
use Rattle.cob_codec_lanes.specs.Lanes.{picked_at}
use Rattle.cob_codec_lanes.specs.Readers.{AreWanted}
use Rattle.cob_codec_lanes.specs.Windows.{power_pick}
use Rattle.cob_codec_lanes.specs.Wide.{AreHeldWide, IsWideKeeperOf}
use Rattle.cob_codec_lanes.specs.declared.wide_keeper.WideKeeper.{WideKeeper}
use Rattle.cob_codec_lanes.proofs.WantedLemmas.{digit_small}
use Rattle.cob_codec_lanes.proofs.WordReading.{picked_place}

pub valid_front : (xs ys : List ℕ) → IsDigits (xs ++ ys) → IsDigits xs
valid_front [] ys h = tt
valid_front (x ∷ xs) ys h = (h.0, valid_front xs ys h.1)

pub valid_back : (xs ys : List ℕ) → IsDigits (xs ++ ys) → IsDigits ys
valid_back [] ys h = h
valid_back (x ∷ xs) ys h = valid_back xs ys h.1

-- ---- a digit of a number is one of the two vectors'

-- the lanes of thirty-two
pub lane_in_front : (front back : List ℕ) (l : ℕ) → length front ≡ 16 → l < 16 → get_or (front ++ back) l 0 ≡ get_or front l 0
lane_in_front front back l first lt = get_or_append_left front back 0 l (omega arith)

pub lane_behind : (front back : List ℕ) (l : ℕ) → length front ≡ 16 → 16 ≤ l → get_or (front ++ back) l 0 ≡ get_or back (l - 16) 0
lane_behind front back l first ge = get_or-append_right front back 16 l 0 first ge

low_power : (front back : List ℕ) (q : ℕ) → length front ≡ 16 → length back ≡ 16 → IsDigits (front ++ back) → q < 16
    → number_of (front ++ back) / 10 ^ q % 10 ≡ number_of back / 10 ^ q % 10
low_power front back q first last valid lt =
    let all : length (front ++ back) ≡ 32 = omega (arith, length-append front back) in
    let place : length (front ++ back) - 1 - q - 16 ≡ length back - 1 - q = omega arith in
    digit_in (front ++ back) q valid (omega arith) ∙ lane_behind front back (length (front ++ back) - 1 - q) first (omega arith)
    ∙ ap (λ k. get_or back k 0) place ∙ sym (digit_in back q (valid_back front back valid) (omega arith))

high_power : (front back : List ℕ) (q : ℕ) → length front ≡ 16 → length back ≡ 16 → IsDigits (front ++ back) → 16 ≤ q
    → number_of (front ++ back) / 10 ^ q % 10 ≡ number_of front / 10 ^ (q - 16) % 10
high_power front back q first last valid ge =
    let all : length (front ++ back) ≡ 32 = omega (arith, length-append front back) in
    let v : IsDigits front = valid_front front back valid in
    elim (cases_lt q 32) [
      | inl lt ↦
          let place : length (front ++ back) - 1 - q ≡ length front - 1 - (q - 16) = omega arith in
          digit_in (front ++ back) q valid (omega arith) ∙ lane_in_front front back (length (front ++ back) - 1 - q) first (omega arith)
          ∙ ap (λ k. get_or front k 0) place ∙ sym (digit_in front (q - 16) v (omega arith))
      | inr beyond ↦ digit_beyond (front ++ back) q valid (omega arith) ∙ sym (digit_beyond front (q - 16) v (omega arith))
    ]

pub digit_of_both : (front back : List ℕ) (z : ℤ) → length front ≡ 16 → length back ≡ 16 → IsDigits (front ++ back)
    → digit_at (number_of front) (z -ℤ pos 16) + digit_at (number_of back) z ≡ digit_at (number_of (front ++ back)) z
digit_of_both front back (negsuc q) first last valid =
    let below : (negsuc q -ℤ pos 16) <ℤ pos 0 = omega (arith, ints) in
    omega (arith, digit_below (number_of front) (negsuc q -ℤ pos 16) below)
digit_of_both front back (pos q) first last valid =
    elim (cases_lt q 16) [
      | inl lt ↦
          let below : (pos q -ℤ pos 16) <ℤ pos 0 = omega (arith, ints) in
          let none : digit_at (number_of front) (pos q -ℤ pos 16) ≡ 0 = digit_below (number_of front) (pos q -ℤ pos 16) below in
          let same : number_of (front ++ back) / 10 ^ q % 10 ≡ number_of back / 10 ^ q % 10 = low_power front back q first last valid lt in
          ap (λ n. n + number_of back / 10 ^ q % 10) none ∙ bare (number_of back / 10 ^ q % 10) ∙ sym same
      | inr ge ↦
          let there : (pos q -ℤ pos 16) ≡ pos (q - 16) = omega (arith, ints) in
          let some : digit_at (number_of front) (pos q -ℤ pos 16) ≡ number_of front / 10 ^ (q - 16) % 10 = digit_from (number_of front) (pos q -ℤ pos 16) (q - 16) there in
          let none : number_of back / 10 ^ q % 10 ≡ 0 = digit_beyond back q (valid_back front back valid) (omega arith) in
          let same : number_of (front ++ back) / 10 ^ q % 10 ≡ number_of front / 10 ^ (q - 16) % 10 = high_power front back q first last valid ge in
          ap (λ n. n + number_of back / 10 ^ q % 10) some ∙ ap (λ n. number_of front / 10 ^ (q - 16) % 10 + n) none ∙ plain (number_of front / 10 ^ (q - 16) % 10) ∙ sym same
    ]
  where
    plain : (n : ℕ) → n + 0 ≡ n
    plain n = omega arith

    bare : (n : ℕ) → 0 + n ≡ n
    bare n = omega arith

-- ---- what is kept

pub kept_wide : (number wanted : ℕ) (shift : ℤ) (k : WideKeeper) (front back a b kept : List ℕ) → IsWideKeeperOf wanted shift k → AreHeldWide number front back
    → ((i : ℕ) → i < 16 → get_or a i 0 ≡ picked_at front (get_or k.front.lanes i 0)) → ((i : ℕ) → i < 16 → get_or b i 0 ≡ picked_at back (get_or k.back.lanes i 0))
    → length kept ≡ 16 → ((i : ℕ) → i < 16 → get_or kept i 0 ≡ (get_or a i 0 + get_or b i 0) % 256) → AreWanted wanted shift number kept
kept_wide number wanted shift k front back a b kept is held first last long each = record {
  long = long;
  each = λ j lt.
      let lane : j < 16 = omega (arith, is.room) in
      let z : ℤ = pos (wanted - 1 - j) -ℤ shift in
      let power : pos (wanted - 1 - j) -ℤ (shift -ℤ negsuc 15) ≡ z -ℤ pos 16 = omega (arith, ints) in
      let x : get_or a j 0 ≡ digit_at (number_of front) (z -ℤ pos 16) =
      first j lane ∙ ap (picked_at front) (is.front.each j lt ∙ ap (power_pick true 0 2 16) power) ∙ picked_place front (z -ℤ pos 16) held.first (valid_front front back held.valid) in
      let y : get_or b j 0 ≡ digit_at (number_of back) z =
      last j lane ∙ ap (picked_at back) (is.back.each j lt) ∙ picked_place back z held.last (valid_back front back held.valid) in
      let sum : digit_at (number_of front) (z -ℤ pos 16) + digit_at (number_of back) z ≡ digit_at (number_of (front ++ back)) z = digit_of_both front back z held.first held.last held.valid in
      let whole : digit_at (number_of (front ++ back)) z ≡ digit_at number z = ap (λ n. digit_at n z) held.value in
      omega (arith, each j lane, x, y, sum, whole, digit_small number z);
  rest = λ j ge lt.
      let x : get_or a j 0 ≡ 0 = first j lt ∙ ap (picked_at front) (is.front.rest j ge lt) in
      let y : get_or b j 0 ≡ 0 = last j lt ∙ ap (picked_at back) (is.back.rest j ge lt) in
      omega (arith, each j lt, x, y);
}
