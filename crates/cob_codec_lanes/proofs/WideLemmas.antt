-- Digits of a number in two vectors, those in front and the last sixteen: together they are the number, aligned.
use Rattle.std.proofs.Common.{◌≡◌, ◌↔◌, ℕ, ◌+◌, ◌-◌, ◌<◌, ◌≤◌, ℤ, pos, ◌-ℤ◌, List, ◌++◌, length, get_or, take, sym, ap, ◌∙◌, inl, inr, arith, length-append, length-take-le, get_or-take}
use Rattle.std.proofs.lemmas.Bool.{cases_lt}
use Rattle.std.proofs.lemmas.Int.{ints}
use Rattle.std.proofs.lemmas.List.{get_or-append_right, get_or_append_left, take_all}
use Rattle.cob_decimal.specs.Decimal.{IsDigits, number_of, digit_at, aligned}
use Rattle.cob_codec_lanes.specs.Lanes.{AreTens, AreZero}
use Rattle.cob_codec_lanes.specs.Readers.{AreWanted}
use Rattle.cob_codec_lanes.proofs.HalfLemmas.{all_digits}
use Rattle.cob_codec_lanes.proofs.WantedLemmas.{digits_aligned, number_zeros, zeros_number}

-- the digits in front, and the last sixteen
abbrev pub joined : ℕ → List ℕ → List ℕ → List ℕ
joined count front back = take (count - 16) front ++ back

pub joined_length : (count : ℕ) (front back : List ℕ) → 16 < count → count ≤ 32 → length front ≡ 16 → length back ≡ 16 → length (joined count front back) ≡ count
joined_length count front back many room first last =
    let n : ℕ = count - 16 in
    omega (arith, length-append (take n front) back, length-take-le n front (omega arith))

pub joined_front : (count : ℕ) (front back : List ℕ) (j : ℕ) → 16 < count → count ≤ 32 → length front ≡ 16 → j < count - 16 → get_or (joined count front back) j 0 ≡ get_or front j 0
joined_front count front back j many room first lt =
    let n : ℕ = count - 16 in
    get_or_append_left (take n front) back 0 j (omega (arith, length-take-le n front (omega arith))) ∙ get_or-take n front j 0 lt

pub joined_back : (count : ℕ) (front back : List ℕ) (j : ℕ) → 16 < count → count ≤ 32 → length front ≡ 16 → count - 16 ≤ j → get_or (joined count front back) j 0 ≡ get_or back (j - (count - 16)) 0
joined_back count front back j many room first ge =
    let n : ℕ = count - 16 in
    get_or-append_right (take n front) back n j 0 (length-take-le n front (omega arith)) ge

joined_small : (count : ℕ) (front back : List ℕ) → 16 < count → count ≤ 32 → length front ≡ 16 → AreTens front → AreTens back → (j : ℕ) → j < count → get_or (joined count front back) j 0 < 10
joined_small count front back many room first f b j lt =
    elim (cases_lt j (count - 16)) [
      | inl before ↦ omega (arith, joined_front count front back j many room first before, f j (omega arith))
      | inr from ↦ omega (arith, joined_back count front back j many room first from, b (j - (count - 16)) (omega arith))
    ]

pub joined_valid : (count : ℕ) (front back : List ℕ) → 16 < count → count ≤ 32 → length front ≡ 16 → length back ≡ 16 → AreTens front → AreTens back → IsDigits (joined count front back)
joined_valid count front back many room first last f b =
    let long = joined_length count front back many room first last in
    all_digits (joined count front back) (λ j lt. joined_small count front back many room first f b j (omega arith))

joined_each : (count : ℕ) (s : ℤ) (a : ℕ) (front back : List ℕ) → 16 < count → count ≤ 32 → AreWanted (count - 16) (s -ℤ pos 16) a front → AreWanted 16 s a back
    → (j : ℕ) → j < count → get_or (joined count front back) j 0 ≡ digit_at a (pos (count - 1 - j) -ℤ s)
joined_each count s a front back many room f b j lt =
    elim (cases_lt j (count - 16)) [
      | inl before ↦
          let power : pos (count - 16 - 1 - j) -ℤ (s -ℤ pos 16) ≡ pos (count - 1 - j) -ℤ s = omega (arith, ints) in
          joined_front count front back j many room f.long before ∙ f.each j before ∙ ap (digit_at a) power
      | inr from ↦
          let i : ℕ = j - (count - 16) in
          let power : 16 - 1 - i ≡ count - 1 - j = omega arith in
          joined_back count front back j many room f.long from ∙ b.each i (omega arith) ∙ ap (λ k. digit_at a (pos k -ℤ s)) power
    ]

pub joined_aligned : (count : ℕ) (from to : ℤ) (a : ℕ) (front back : List ℕ) → 16 < count → count ≤ 32 → AreWanted (count - 16) (to -ℤ from -ℤ pos 16) a front → AreWanted 16 (to -ℤ from) a back
    → number_of (joined count front back) ≡ aligned a from to count
joined_aligned count from to a front back many room f b =
    let ds : List ℕ = joined count front back in
    let long : length ds ≡ count = joined_length count front back many room f.long b.long in
    ap number_of (sym (take_all count ds (omega arith))) ∙ digits_aligned count from to a ds (omega arith) (joined_each count (to -ℤ from) a front back many room f b)

pub joined_zero : (count : ℕ) (s : ℤ) (a : ℕ) (front back : List ℕ) → 16 < count → count ≤ 32 → AreWanted (count - 16) (s -ℤ pos 16) a front → AreWanted 16 s a back
    → (AreZero front × AreZero back) ↔ (number_of (joined count front back) ≡ 0)
joined_zero count s a front back many room f b =
    let ds : List ℕ = joined count front back in
    let long : length ds ≡ count = joined_length count front back many room f.long b.long in (
      λ z. zeros_number ds (λ j lt. elim (cases_lt j (count - 16)) [
        | inl before ↦ joined_front count front back j many room f.long before ∙ z.0 j (omega arith)
        | inr from ↦ joined_back count front back j many room f.long from ∙ z.1 (j - (count - 16)) (omega arith)
      ]),
      λ e. (
        λ i lt. elim (cases_lt i (count - 16)) [
          | inl before ↦ sym (joined_front count front back i many room f.long before) ∙ number_zeros ds e i (omega arith)
          | inr beyond ↦ f.rest i beyond lt
        ],
        λ i lt.
            let behind : count - 16 + i - (count - 16) ≡ i = omega arith in
            sym (ap (λ k. get_or back k 0) behind) ∙ sym (joined_back count front back (count - 16 + i) many room f.long (omega arith)) ∙ number_zeros ds e (count - 16 + i) (omega arith),
      ),
    )
