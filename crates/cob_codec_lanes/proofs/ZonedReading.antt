-- Zoned items, read.
use Rattle.std.proofs.Common.{◌≡◌, ◌≢◌, ℕ, ◌+◌, ◌-◌, ◌*◌, ◌/◌, ◌%◌, ◌<◌, ◌≤◌, ◌&&◌, ℤ, Bool, true, false, cond, ltb, eqb, List, map, length, get_or, refl, sym, ap, subst, ◌∙◌, inl, inr, arith, eq-eqb, ne_eqb}
use Rattle.std.proofs.lemmas.Bool.{cases_lt, cases_eq}
use Rattle.std.proofs.lemmas.List.{get_or-map, length-map}
use Rattle.cob_decimal.specs.Decimal.{IsDigits, number_of}
use Rattle.cob_codec.specs.Sign.{sign_meaning, sign_place}
use Rattle.cob_codec.specs.Zoned.{IsZoned, low_digit}
use Rattle.cob_codec.specs.Packed.{halves}
use Rattle.cob_codec.proofs.ZonedLaws.{zoned_digit}
use Rattle.cob_codec_lanes.specs.Lanes.{IsVector}
use Rattle.cob_codec_lanes.specs.Windows.{last_bytes, lane_between, ArePowerPicks}
use Rattle.cob_codec_lanes.specs.Readers.{AreRead, AreTaken, IsReaderOf, LanesPass}
use Rattle.cob_codec_lanes.specs.declared.signs.SignByte.TheVariants.{Zone}
use Rattle.cob_codec_lanes.specs.Signs.{byte_meaning}
use Rattle.cob_codec_lanes.specs.declared.reader.LaneReader.{LaneReader}
use Rattle.cob_codec_lanes.proofs.HalfLemmas.{all_digits, signed_as, inside_is, before_is, last_byte, last_length, half_odd, wanted_digits}

-- The fields of a reader of zoned items of so many digits.
pub record ReadsZoned (count : ℕ) (signed leading : Bool) (wanted : ℕ) (shift : ℤ) (r : LaneReader) : Type 0 where
  pub some : 0 < count
  pub most : count ≤ 16
  pub room : wanted ≤ 16
  pub least_high : (i : ℕ) → i < 16 → get_or r.bounds.least_high i 0 ≡ cond (eqb i (16 - count + sign_place signed leading count)) 0 (lane_between (16 - count) 16 15 0 i)
  pub most_high : (i : ℕ) → i < 16 → get_or r.bounds.most_high i 0 ≡ 15
  pub most_low : (i : ℕ) → i < 16 → get_or r.bounds.most_low i 0 ≡ lane_between (16 - count) 16 9 15 i
  pub high : ArePowerPicks true (2 * (16 - count) + 1) 2 count wanted shift r.high.lanes
  pub low : ArePowerPicks false (2 * (16 - count) + 1) 2 count wanted shift r.low.lanes
  pub sign_is : r.sign ≡ Zone
  pub signed_is : r.signed ≡ signed
  pub place_is : r.place ≡ 16 - count + sign_place signed leading count

-- the byte of the sign says
sign_said : (count : ℕ) (signed leading : Bool) (wanted : ℕ) (shift : ℤ) (r : LaneReader) (v : List ℕ) → ReadsZoned count signed leading wanted shift r → length v ≡ 16
    → byte_meaning r.sign r.signed (get_or v r.place 0) ≡ sign_meaning signed (get_or (last_bytes count v) (sign_place signed leading count) 0 / 16)
sign_said count signed leading wanted shift r v f long =
    ap (λ s. byte_meaning s r.signed (get_or v r.place 0)) f.sign_is ∙ ap (λ b. sign_meaning b (get_or v r.place 0 / 16)) f.signed_is
    ∙ ap (λ p. sign_meaning signed (get_or v p 0 / 16)) f.place_is
    ∙ sym (ap (λ b. sign_meaning signed (b / 16)) (last_byte count v (sign_place signed leading count) long))

from_passing : (count : ℕ) (signed leading : Bool) (wanted : ℕ) (shift : ℤ) (r : LaneReader) → ReadsZoned count signed leading wanted shift r
    → (v kept : List ℕ) (minus : Bool) → IsVector v → LanesPass r v minus → AreTaken r v kept → AreRead (IsZoned count signed leading (last_bytes count v)) wanted shift minus kept
from_passing count signed leading wanted shift r f v kept minus vector passes taken =
    let item : List ℕ = last_bytes count v in
    let front : ℕ = 16 - count in
    let size : length item ≡ count = last_length count v vector.long f.most in
    let ds : List ℕ = map low_digit item in
    let many : length ds ≡ count = length-map item low_digit ∙ size in
    let most : count ≤ 16 = f.most in
    let byte : (k : ℕ) → get_or item k 0 ≡ get_or v (front + k) 0 = λ k. last_byte count v k vector.long in
    let is : (k : ℕ) → k < count → get_or ds k 0 ≡ get_or v (front + k) 0 % 16 = λ k lt. (let inside : k < length item = omega arith in get_or-map low_digit item k 0 0 inside ∙ ap (λ b. b % 16) (byte k)) in
    let valid : IsDigits ds = all_digits ds (λ k lt.
    let inside : k < count = omega arith in
    let lane : front + k < 16 = omega arith in
    let bound : get_or r.bounds.most_low (front + k) 0 ≡ 9 = f.most_low (front + k) lane ∙ inside_is front 16 9 15 (front + k) (omega arith) lane in
    omega (arith, is k inside, passes.within.low (front + k) lane, bound)) in
    let said = sign_said count signed leading wanted shift r v f vector.long in
    record {
      negative = minus && ltb 0 (number_of ds);
      digits = ds;
      represented = record {
        long = size;
        low_halves = refl;
        valid = valid;
        zones = λ k lt other.
            let lane : front + k < 16 = omega arith in
            let elsewhere : front + k ≢ front + sign_place signed leading count = λ e. other (omega arith) in
            let free : eqb (front + k) (front + sign_place signed leading count) ≡ false = ne_eqb _ _ elsewhere in
            let zone : get_or r.bounds.least_high (front + k) 0 ≡ 15 =
            f.least_high (front + k) lane ∙ ap (λ b. cond b 0 (lane_between front 16 15 0 (front + k))) free ∙ inside_is front 16 15 0 (front + k) (omega arith) lane in
            ap (λ b. b / 16) (byte k) ∙ omega (arith, passes.within.least (front + k) lane, zone, vector.small (front + k));
        minus = minus;
        meaning = sym said ∙ passes.sign;
        sign = signed_as minus (number_of ds);
      };
      valid = valid;
      sign = signed_as minus (number_of ds);
      held = wanted_digits (2 * (16 - count) + 1) 2 count wanted shift r v ds kept f.room (λ k lt. omega arith) many valid
          (λ k lt. (let half : 2 * (16 - count) + 1 + 2 * k ≡ 2 * (front + k) + 1 = omega arith in is k lt ∙ sym (ap (λ m. get_or (halves v) m 0) half ∙ half_odd v (front + k))))
          f.high f.low taken;
    }

to_passing : (count : ℕ) (signed leading : Bool) (wanted : ℕ) (shift : ℤ) (r : LaneReader) → ReadsZoned count signed leading wanted shift r
    → (v : List ℕ) (negative : Bool) (digits : List ℕ) → IsVector v → IsZoned count signed leading (last_bytes count v) negative digits → (minus : Bool) × LanesPass r v minus
to_passing count signed leading wanted shift r f v negative digits vector z =
    let item : List ℕ = last_bytes count v in
    let front : ℕ = 16 - count in
    let most : count ≤ 16 = f.most in
    let place : ℕ = sign_place signed leading count in
    let byte : (i : ℕ) → front ≤ i → get_or item (i - front) 0 ≡ get_or v i 0 = λ i ge. last_byte count v (i - front) vector.long ∙ ap (λ k. get_or v k 0) (omega arith) in (
      z.minus,
      record {
        within = record {
          least = λ i lt.
              let bound = f.least_high i lt in
              elim (cases_eq i (front + place)) [
                | inl at ↦ (let e : eqb i (front + place) ≡ true = eq-eqb _ _ at in let none : get_or r.bounds.least_high i 0 ≡ 0 = bound ∙ ap (λ b. cond b 0 (lane_between front 16 15 0 i)) e in omega arith)
                | inr other ↦
                    let e : eqb i (front + place) ≡ false = ne_eqb _ _ other in
                    let rest : get_or r.bounds.least_high i 0 ≡ lane_between front 16 15 0 i = bound ∙ ap (λ b. cond b 0 (lane_between front 16 15 0 i)) e in
                    elim (cases_lt i front) [
                      | inl before ↦ omega (arith, rest, before_is front 16 15 0 i before)
                      | inr ge ↦
                          let zone : get_or item (i - front) 0 / 16 ≡ 15 = z.zones (i - front) (omega arith) (λ e. other (omega arith)) in
                          let here : get_or v i 0 / 16 ≡ 15 = ap (λ b. b / 16) (sym (byte i ge)) ∙ zone in
                          omega (arith, rest, inside_is front 16 15 0 i ge lt)
                    ]
              ];
          most = λ i lt. omega (arith, f.most_high i lt, vector.small i);
          low = λ i lt.
              let bound = f.most_low i lt in
              elim (cases_lt i front) [
                | inl before ↦ omega (arith, bound, before_is front 16 9 15 i before)
                | inr ge ↦
                    let within : i - front < length item = omega (arith, last_length count v vector.long most) in
                    let small : get_or item (i - front) 0 % 16 < 10 = zoned_digit count signed leading item negative digits (i - front) z within in
                    let here : get_or v i 0 % 16 < 10 = rw (byte i ge) at small in
                    omega (arith, bound, inside_is front 16 9 15 i ge lt)
              ];
        };
        sign = sign_said count signed leading wanted shift r v f vector.long ∙ z.meaning;
      },
    )

reads_zoned : (count : ℕ) (signed leading : Bool) (wanted : ℕ) (shift : ℤ) (r : LaneReader) → ReadsZoned count signed leading wanted shift r → IsReaderOf (IsZoned count signed leading) count wanted shift r
reads_zoned count signed leading wanted shift r f = record {
  fits = f.most;
  room = f.room;
  reads = from_passing count signed leading wanted shift r f;
  passes = to_passing count signed leading wanted shift r f;
}

-- the same, where the number of digits is another's
pub zoned_reader : (n count : ℕ) (signed leading : Bool) (wanted : ℕ) (shift : ℤ) (r : LaneReader) → n ≡ count → ReadsZoned n signed leading wanted shift r → IsReaderOf (IsZoned count signed leading) count wanted shift r
zoned_reader n count signed leading wanted shift r e f = subst (λ k. IsReaderOf (IsZoned k signed leading) k wanted shift r) e (reads_zoned n signed leading wanted shift r f)
