-- Items of at most sixteen bytes that are read as numbers in two vectors.
use Rattle.std.proofs.Common.{◌≡◌, ℕ, ◌*◌, ◌%◌, ◌^◌, ◌<◌, ◌≤◌, ℤ, pos, negsuc, Bool, List, ◌++◌, length, sym, ap, subst, ◌∙◌, arith, length-append}
use Rattle.std.proofs.Math.Nat.{mod-eq_of_lt, pow-le-pow_right}
use Rattle.std.proofs.lemmas.List.{length-map, take_all}
use Rattle.cob_decimal.specs.Decimal.{IsDigits, number_of}
use Rattle.cob_decimal.proofs.DecimalLemmas.{number_of-lt}
use Rattle.cob_codec.specs.Packed.{IsPacked}
use Rattle.cob_codec.specs.Separate.{IsSignedSeparately}
use Rattle.cob_codec.specs.Zoned.{IsZoned, low_digit}
use Rattle.cob_codec.proofs.PackedLaws as packed
use Rattle.cob_codec.proofs.SeparateLaws as separate
use Rattle.cob_codec.proofs.ZonedLaws as zoned
use Rattle.cob_codec_lanes.specs.Pairs.{IsPairRead, IsPairReaderOf}
use Rattle.cob_codec_lanes.specs.Readers.{AreNumeralsOf, AreRead, AreWanted, IsReaderOf}
use Rattle.cob_codec_lanes.specs.Wide.{AreHeldWide, IsWideRead}
use Rattle.cob_codec_lanes.specs.Windows.{last_bytes}
use Rattle.cob_codec_lanes.specs.declared.reader.LaneReader.{LaneReader}
use Rattle.cob_codec_lanes.specs.declared.pair_reader.PairReader.{PairReader}
use Rattle.cob_codec_lanes.proofs.WantedLemmas.{wanted_tens}
use Rattle.cob_codec_lanes.proofs.WideLemmas.{joined, joined_aligned, joined_valid}

-- ---- kinds

pub zoned_pair : (count size : ℕ) (signed leading : Bool) (r : PairReader) → size ≡ count → count ≤ 32 → IsReaderOf (IsZoned count signed leading) size 16 (negsuc 15) r.front → IsReaderOf (IsZoned count signed leading) size 16 (pos 0) r.back
    → IsPairReaderOf (IsZoned count signed leading) size r
zoned_pair count size signed leading r is most front back = record {
  front = front;
  back = back;
  one = λ bytes a b ds es x y. (zoned.one_number count signed leading bytes a b ds es x y).1;
  few = λ bytes negative digits z. omega (arith, ap length z.low_halves, length-map bytes low_digit, z.long);
}

pub separate_pair : (count size : ℕ) (leading : Bool) (r : PairReader) → count ≤ 32 → IsReaderOf (IsSignedSeparately count leading) size 16 (negsuc 15) r.front → IsReaderOf (IsSignedSeparately count leading) size 16 (pos 0) r.back
    → IsPairReaderOf (IsSignedSeparately count leading) size r
separate_pair count size leading r most front back = record {
  front = front;
  back = back;
  one = λ bytes a b ds es x y. (separate.one_number count leading bytes a b ds es x y).1;
  few = λ bytes negative digits z. omega (arith, z.count_is);
}

pub packed_pair : (count size : ℕ) (signed : Bool) (r : PairReader) → count ≤ 32 → IsReaderOf (IsPacked count signed) size 16 (negsuc 15) r.front → IsReaderOf (IsPacked count signed) size 16 (pos 0) r.back → IsPairReaderOf (IsPacked count signed) size r
packed_pair count size signed r most front back = record {
  front = front;
  back = back;
  one = λ bytes a b ds es x y. (packed.one_number count signed bytes a b ds es x y).1;
  few = λ bytes negative digits z. omega (arith, z.count_is);
}

pub numeral_pair : (count size : ℕ) (r : PairReader) → count ≤ 32 → IsReaderOf (AreNumeralsOf count) size 16 (negsuc 15) r.front → IsReaderOf (AreNumeralsOf count) size 16 (pos 0) r.back → IsPairReaderOf (AreNumeralsOf count) size r
numeral_pair count size r most front back = record {
  front = front;
  back = back;
  one = λ bytes a b ds es x y. x.low_halves ∙ sym y.low_halves;
  few = λ bytes negative digits z. omega (arith, ap length z.low_halves, length-map bytes low_digit, z.long);
}

-- ---- what is read

-- the last sixteen digits, and those in front of them, are the number
pub held_wanted : (number : ℕ) (front back : List ℕ) → number < 10 ^ 32 → AreWanted 16 (negsuc 15) number front → AreWanted 16 (pos 0) number back → AreHeldWide number front back
held_wanted number front back small f b =
    let all : length (front ++ back) ≡ 32 = omega (arith, length-append front back, f.long, b.long) in
    let whole : joined 32 front back ≡ front ++ back = ap (λ xs. xs ++ back) (take_all 16 front (omega (arith, f.long))) in
    let value : number_of (joined 32 front back) ≡ number * 1 % 10 ^ 32 = joined_aligned 32 (pos 0) (pos 0) number front back (omega arith) (omega arith) f b in
    let same : number * 1 ≡ number = omega arith in
    record {
      first = f.long;
      last = b.long;
      valid = subst IsDigits whole (joined_valid 32 front back (omega arith) (omega arith) f.long b.long (wanted_tens 16 (negsuc 15) number front f) (wanted_tens 16 (pos 0) number back b));
      value = sym (ap number_of whole) ∙ value ∙ ap (λ n. n % 10 ^ 32) same ∙ mod-eq_of_lt small;
    }

pub pair_read : (represents : List ℕ → Bool → List ℕ → Type 0) (size : ℕ) (r : PairReader) (bytes front back : List ℕ) (is_number minus : Bool) → IsPairReaderOf represents size r → size ≤ length bytes → IsPairRead r bytes is_number minus front back
    → IsWideRead (represents (last_bytes size bytes)) is_number minus front back
pair_read represents size r bytes front back is_number minus is within p =
    let item : List ℕ = last_bytes size bytes in
    let same : last_bytes size p.read.window ≡ item = p.read.same size is.back.fits within in
    let lead : last_bytes size p.taken.window ≡ item = p.taken.same size is.front.fits within in
    record {
      number = λ e.
          let b : AreRead (represents item) 16 (pos 0) minus back = subst (λ xs. AreRead (represents xs) 16 (pos 0) minus back) same (is.back.reads p.read.window back minus p.read.vector (p.read.number e) p.read.taken) in
          let passed = is.front.passes p.taken.window b.negative b.digits p.taken.vector (subst (λ xs. represents xs b.negative b.digits) (sym lead) b.represented) in
          let f : AreRead (represents item) 16 (negsuc 15) passed.0 front = subst (λ xs. AreRead (represents xs) 16 (negsuc 15) passed.0 front) lead (is.front.reads p.taken.window front passed.0 p.taken.vector passed.1 p.taken.taken) in
          let equal : f.digits ≡ b.digits = is.one item f.negative b.negative f.digits b.digits f.represented b.represented in
          let small : number_of b.digits < 10 ^ 32 = less (number_of b.digits) (length b.digits) (number_of-lt b.digits b.valid) (is.few item b.negative b.digits b.represented) in
          record {
            negative = b.negative;
            digits = b.digits;
            represented = b.represented;
            valid = b.valid;
            sign = b.sign;
            held = held_wanted (number_of b.digits) front back small (subst (λ ds. AreWanted 16 (negsuc 15) (number_of ds) front) equal f.held) b.held;
          };
      nothing = λ e negative digits there.
          let passed = is.back.passes p.read.window negative digits p.read.vector (subst (λ xs. represents xs negative digits) (sym same) there) in
          p.read.nothing e passed.0 passed.1;
    }
  where
    less : (a n : ℕ) → a < 10 ^ n → n ≤ 32 → a < 10 ^ 32
    less a n lt most =
        let p : 10 ^ n ≤ 10 ^ 32 = pow-le-pow_right (omega arith) most in
        omega (arith, lt, p)

-- the same digits are wanted
pub wanted_as : (represents : List ℕ → Bool → List ℕ → Type 0) (size w : ℕ) (s z : ℤ) (r : LaneReader) → w ≡ 16 → s ≡ z → IsReaderOf represents size w s r → IsReaderOf represents size 16 z r
wanted_as represents size w s z r wanted shift h = subst (λ x. IsReaderOf represents size 16 x r) shift (subst (λ m. IsReaderOf represents size m s r) wanted h)
