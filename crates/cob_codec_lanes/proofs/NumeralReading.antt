-- Items of numerals, read.
use Rattle.std.proofs.Common.{◌≡◌, ℕ, ◌+◌, ◌-◌, ◌*◌, ◌/◌, ◌%◌, ◌<◌, ◌≤◌, ℤ, Bool, true, false, Some, List, map, length, get_or, refl, sym, ap, subst, ◌∙◌, inl, inr, arith}
use Rattle.std.proofs.lemmas.Bool.{cases_lt}
use Rattle.std.proofs.lemmas.List.{get_or-map, length-map}
use Rattle.cob_decimal.specs.Decimal.{IsDigits}
use Rattle.cob_codec.specs.Sign.{IsSigned, sign_meaning}
use Rattle.cob_codec.proofs.SignLemmas.{digit_small, same_some}
use Rattle.cob_codec.specs.Zoned.{low_digit}
use Rattle.cob_codec.specs.Packed.{halves}
use Rattle.cob_codec_lanes.specs.Lanes.{IsVector}
use Rattle.cob_codec_lanes.specs.Windows.{last_bytes, lane_between, ArePowerPicks}
use Rattle.cob_codec_lanes.specs.Readers.{AreNumeralsOf, AreRead, AreTaken, IsReaderOf, LanesPass}
use Rattle.cob_codec_lanes.specs.declared.signs.SignByte.TheVariants.{Zone}
use Rattle.cob_codec_lanes.specs.Signs.{byte_meaning}
use Rattle.cob_codec_lanes.specs.declared.reader.LaneReader.{LaneReader}
use Rattle.cob_codec_lanes.proofs.HalfLemmas.{all_digits, inside_is, before_is, last_byte, last_length, half_odd, wanted_digits}

-- The fields of a reader of items of so many numerals.
pub record ReadsNumerals (count wanted : ℕ) (shift : ℤ) (r : LaneReader) : Type 0 where
  pub some : 0 < count
  pub most : count ≤ 16
  pub room : wanted ≤ 16
  pub least_high : (i : ℕ) → i < 16 → get_or r.bounds.least_high i 0 ≡ lane_between (16 - count) 16 15 0 i
  pub most_high : (i : ℕ) → i < 16 → get_or r.bounds.most_high i 0 ≡ 15
  pub most_low : (i : ℕ) → i < 16 → get_or r.bounds.most_low i 0 ≡ lane_between (16 - count) 16 9 15 i
  pub high : ArePowerPicks true (2 * (16 - count) + 1) 2 count wanted shift r.high.lanes
  pub low : ArePowerPicks false (2 * (16 - count) + 1) 2 count wanted shift r.low.lanes
  pub sign_is : r.sign ≡ Zone
  pub signed_is : r.signed ≡ false
  pub place_is : r.place ≡ 15

-- the last byte says plus, where its high half is F
last_said : (r : LaneReader) (v : List ℕ) → r.sign ≡ Zone → r.signed ≡ false → r.place ≡ 15 → get_or v 15 0 / 16 ≡ 15 → byte_meaning r.sign r.signed (get_or v r.place 0) ≡ Some false
last_said r v sign signed place zone =
    ap (λ s. byte_meaning s r.signed (get_or v r.place 0)) sign ∙ ap (λ b. sign_meaning b (get_or v r.place 0 / 16)) signed
    ∙ ap (λ p. sign_meaning false (get_or v p 0 / 16)) place ∙ ap (sign_meaning false) zone

-- what is plus is not negative
plus_signed : (minus : Bool) (digits : List ℕ) → minus ≡ false → IsSigned minus digits false
plus_signed true digits e = absurd cc
plus_signed false digits e = (λ t. absurd cc, λ p. p.0)

from_passing : (count wanted : ℕ) (shift : ℤ) (r : LaneReader) → ReadsNumerals count wanted shift r
    → (v kept : List ℕ) (minus : Bool) → IsVector v → LanesPass r v minus → AreTaken r v kept → AreRead (AreNumeralsOf count (last_bytes count v)) wanted shift minus kept
from_passing count wanted shift r f v kept minus vector passes taken =
    let item : List ℕ = last_bytes count v in
    let front : ℕ = 16 - count in
    let size : length item ≡ count = last_length count v vector.long f.most in
    let ds : List ℕ = map low_digit item in
    let many : length ds ≡ count = length-map item low_digit ∙ size in
    let most : count ≤ 16 = f.most in
    let byte : (k : ℕ) → get_or item k 0 ≡ get_or v (front + k) 0 = λ k. last_byte count v k vector.long in
    let is : (k : ℕ) → k < count → get_or ds k 0 ≡ get_or v (front + k) 0 % 16 = λ k lt. (let inside : k < length item = omega arith in get_or-map low_digit item k 0 0 inside ∙ ap (λ b. b % 16) (byte k)) in
    let valid : IsDigits ds = all_digits ds (λ k lt.
    let inside : k < count = omega arith in
    let lane : front + k < 16 = omega arith in
    let bound : get_or r.bounds.most_low (front + k) 0 ≡ 9 = f.most_low (front + k) lane ∙ inside_is front 16 9 15 (front + k) (omega arith) lane in
    omega (arith, is k inside, passes.within.low (front + k) lane, bound)) in
    let zone : (i : ℕ) → front ≤ i → i < 16 → get_or v i 0 / 16 ≡ 15 = λ i ge lt.
    let bound : get_or r.bounds.least_high i 0 ≡ 15 = f.least_high i lt ∙ inside_is front 16 15 0 i ge lt in
    omega (arith, passes.within.least i lt, bound, vector.small i) in
    let some : 0 < count = f.some in
    let plus : minus ≡ false = same_some minus false (sym passes.sign ∙ last_said r v f.sign_is f.signed_is f.place_is (zone 15 (omega arith) (omega arith))) in
    record {
      negative = false;
      digits = ds;
      represented = record {
        long = size;
        zones = λ k lt. ap (λ b. b / 16) (byte k) ∙ zone (front + k) (omega arith) (omega arith);
        low_halves = refl;
        valid = valid;
        plus = refl;
      };
      valid = valid;
      sign = plus_signed minus ds plus;
      held = wanted_digits (2 * (16 - count) + 1) 2 count wanted shift r v ds kept f.room (λ k lt. omega arith) many valid
          (λ k lt. (let half : 2 * (16 - count) + 1 + 2 * k ≡ 2 * (front + k) + 1 = omega arith in is k lt ∙ sym (ap (λ m. get_or (halves v) m 0) half ∙ half_odd v (front + k))))
          f.high f.low taken;
    }

-- the low half of each byte is a digit
numeral_digit : (count : ℕ) (bytes : List ℕ) (negative : Bool) (ds : List ℕ) (k : ℕ) → AreNumeralsOf count bytes negative ds → k < length bytes → get_or bytes k 0 % 16 < 10
numeral_digit count bytes negative ds k n lt =
    let here : get_or (map low_digit bytes) k 0 ≡ get_or bytes k 0 % 16 = get_or-map low_digit bytes k 0 0 lt in
    let same : get_or ds k 0 ≡ get_or bytes k 0 % 16 = ap (λ xs. get_or xs k 0) n.low_halves ∙ here in
    let many : length ds ≡ length bytes = ap length n.low_halves ∙ length-map bytes low_digit in
    omega (arith, same, digit_small ds k n.valid (omega arith))

to_passing : (count wanted : ℕ) (shift : ℤ) (r : LaneReader) → ReadsNumerals count wanted shift r
    → (v : List ℕ) (negative : Bool) (digits : List ℕ) → IsVector v → AreNumeralsOf count (last_bytes count v) negative digits → (minus : Bool) × LanesPass r v minus
to_passing count wanted shift r f v negative digits vector z =
    let item : List ℕ = last_bytes count v in
    let front : ℕ = 16 - count in
    let most : count ≤ 16 = f.most in
    let some : 0 < count = f.some in
    let byte : (i : ℕ) → front ≤ i → get_or item (i - front) 0 ≡ get_or v i 0 = λ i ge. last_byte count v (i - front) vector.long ∙ ap (λ k. get_or v k 0) (omega arith) in
    let zone : (i : ℕ) → front ≤ i → i < 16 → get_or v i 0 / 16 ≡ 15 = λ i ge lt. ap (λ b. b / 16) (sym (byte i ge)) ∙ z.zones (i - front) (omega arith) in (
      false,
      record {
        within = record {
          least = λ i lt.
              let bound = f.least_high i lt in
              elim (cases_lt i front) [
                | inl before ↦ omega (arith, bound, before_is front 16 15 0 i before)
                | inr ge ↦ omega (arith, bound, zone i ge lt, inside_is front 16 15 0 i ge lt)
              ];
          most = λ i lt. omega (arith, f.most_high i lt, vector.small i);
          low = λ i lt.
              let bound = f.most_low i lt in
              elim (cases_lt i front) [
                | inl before ↦ omega (arith, bound, before_is front 16 9 15 i before)
                | inr ge ↦
                    let within : i - front < length item = omega (arith, last_length count v vector.long most) in
                    let small : get_or item (i - front) 0 % 16 < 10 = numeral_digit count item negative digits (i - front) z within in
                    let here : get_or v i 0 % 16 < 10 = rw (byte i ge) at small in
                    omega (arith, bound, inside_is front 16 9 15 i ge lt)
              ];
        };
        sign = last_said r v f.sign_is f.signed_is f.place_is (zone 15 (omega arith) (omega arith));
      },
    )

reads_numerals : (count wanted : ℕ) (shift : ℤ) (r : LaneReader) → ReadsNumerals count wanted shift r → IsReaderOf (AreNumeralsOf count) count wanted shift r
reads_numerals count wanted shift r f = record {
  fits = f.most;
  room = f.room;
  reads = from_passing count wanted shift r f;
  passes = to_passing count wanted shift r f;
}

-- the same, where the number of digits is another's
pub numeral_reader : (n count wanted : ℕ) (shift : ℤ) (r : LaneReader) → n ≡ count → ReadsNumerals n wanted shift r → IsReaderOf (AreNumeralsOf count) count wanted shift r
numeral_reader n count wanted shift r e f = subst (λ k. IsReaderOf (AreNumeralsOf k) k wanted shift r) e (reads_numerals n wanted shift r f)
