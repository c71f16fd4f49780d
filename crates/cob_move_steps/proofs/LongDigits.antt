-- Digits of two vectors, those in front of the last sixteen and these: together they are the number, aligned.
use Rattle.std.proofs.Common.{◌≡◌, ◌↔◌, ℕ, ◌-◌, ◌<◌, ◌≤◌, ℤ, pos, ◌-ℤ◌, cond, List, ◌++◌, length, take, sym, ap, subst, ◌∙◌, inl, inr, arith, lt-ltb, le-ltb, length-take-le}
use Rattle.std.proofs.lemmas.Bool.{cases_lt}
use Rattle.std.proofs.lemmas.List.{take_all}
use Rattle.cob_decimal.specs.Decimal.{IsDigits, number_of, aligned}
use Rattle.cob_codec_lanes.specs.Lanes.{AreTens, AreZero}
use Rattle.cob_codec_lanes.specs.Readers.{AreWanted}
use Rattle.cob_codec_lanes.proofs.WantedLemmas.{wanted_aligned, wanted_tens, wanted_valid, wanted_zero}
use Rattle.cob_codec_lanes.proofs.WideLemmas.{joined, joined_aligned, joined_length, joined_valid, joined_zero}
use Rattle.cob_move_steps.specs.LongDigits.{last_count, long_digits}

pub few_last : (count : ℕ) → count ≤ 16 → last_count count ≡ count
few_last count few =
    elim (cases_lt count 16) [
      | inl lt ↦ ap (λ b. cond {A = ℕ} b count 16) (lt-ltb _ _ lt)
      | inr ge ↦ ap (λ b. cond {A = ℕ} b count 16) (le-ltb _ _ ge) ∙ omega arith
    ]

pub many_last : (count : ℕ) → 16 ≤ count → last_count count ≡ 16
many_last count many = ap (λ b. cond {A = ℕ} b count 16) (le-ltb _ _ many)

-- few digits are some of the last ones
pub long_short : (count : ℕ) (front back : List ℕ) → count ≤ 16 → long_digits count front back ≡ take count back
long_short count front back few =
    let none : count - 16 ≡ 0 = omega arith in
    ap (λ n. take n front ++ take (last_count count) back) none ∙ ap (λ n. take n back) (few_last count few)

-- of many they are all
pub long_joined : (count : ℕ) (front back : List ℕ) → 16 ≤ count → length back ≡ 16 → long_digits count front back ≡ joined count front back
long_joined count front back many last =
    ap (λ n. take (count - 16) front ++ take n back) (many_last count many) ∙ ap (λ xs. take (count - 16) front ++ xs) (take_all 16 back (omega (arith, last)))

-- The digits are a number, aligned.
pub record AreLongDigits (count : ℕ) (from to : ℤ) (a : ℕ) (front back : List ℕ) : Type 0 where
  pub front_long : length front ≡ 16
  pub back_long : length back ≡ 16
  pub front_tens : AreTens front
  pub back_tens : AreTens back
  pub long : length (long_digits count front back) ≡ count
  pub valid : IsDigits (long_digits count front back)
  pub value : number_of (long_digits count front back) ≡ aligned a from to count
  pub zero : (AreZero front × AreZero back) ↔ (number_of (long_digits count front back) ≡ 0)

short_are : (count : ℕ) (from to : ℤ) (a : ℕ) (front back : List ℕ) → count ≤ 16 → AreWanted (count - 16) (to -ℤ from -ℤ pos 16) a front → AreWanted count (to -ℤ from) a back → AreLongDigits count from to a front back
short_are count from to a front back few f b =
    let same : long_digits count front back ≡ take count back = long_short count front back few in
    let both = wanted_zero count (to -ℤ from) a back few b in
    record {
      front_long = f.long;
      back_long = b.long;
      front_tens = wanted_tens (count - 16) (to -ℤ from -ℤ pos 16) a front f;
      back_tens = wanted_tens count (to -ℤ from) a back b;
      long = ap length same ∙ length-take-le count back (omega (arith, b.long));
      valid = subst IsDigits (sym same) (wanted_valid count (to -ℤ from) a back few b);
      value = ap number_of same ∙ wanted_aligned count from to a back few b;
      zero = (λ z. ap number_of same ∙ both.0 z.1, λ e. (λ i lt. f.rest i (omega arith) lt, both.1 (sym (ap number_of same) ∙ e)));
    }

many_are : (count : ℕ) (from to : ℤ) (a : ℕ) (front back : List ℕ) → 16 < count → count ≤ 32 → AreWanted (count - 16) (to -ℤ from -ℤ pos 16) a front → AreWanted 16 (to -ℤ from) a back → AreLongDigits count from to a front back
many_are count from to a front back many room f b =
    let same : long_digits count front back ≡ joined count front back = long_joined count front back (omega arith) b.long in
    let both = joined_zero count (to -ℤ from) a front back many room f b in
    let tens : AreTens front = wanted_tens (count - 16) (to -ℤ from -ℤ pos 16) a front f in
    let more : AreTens back = wanted_tens 16 (to -ℤ from) a back b in
    record {
      front_long = f.long;
      back_long = b.long;
      front_tens = tens;
      back_tens = more;
      long = ap length same ∙ joined_length count front back many room f.long b.long;
      valid = subst IsDigits (sym same) (joined_valid count front back many room f.long b.long tens more);
      value = ap number_of same ∙ joined_aligned count from to a front back many room f b;
      zero = (λ z. ap number_of same ∙ both.0 z, λ e. both.1 (sym (ap number_of same) ∙ e));
    }

pub long_are : (count : ℕ) (from to : ℤ) (a : ℕ) (front back : List ℕ) → count ≤ 32 → AreWanted (count - 16) (to -ℤ from -ℤ pos 16) a front → AreWanted (last_count count) (to -ℤ from) a back → AreLongDigits count from to a front back
long_are count from to a front back room f b =
    elim (cases_lt 16 count) [
      | inl many ↦ many_are count from to a front back many room f (subst (λ n. AreWanted n (to -ℤ from) a back) (many_last count (omega arith)) b)
      | inr few ↦ short_are count from to a front back few f (subst (λ n. AreWanted n (to -ℤ from) a back) (few_last count few) b)
    ]
