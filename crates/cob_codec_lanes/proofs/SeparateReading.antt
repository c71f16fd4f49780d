-- Items with a separate sign, read.
use Rattle.std.proofs.Common.{◌≡◌, ℕ, suc, ◌+◌, ◌-◌, ◌*◌, ◌/◌, ◌%◌, ◌<◌, ◌≤◌, ◌&&◌, ℤ, Bool, true, false, cond, ltb, eqb, List, [], ◌∷◌, ◌++◌, map, length, get_or, take, drop, Some, None, refl, sym, ap, subst, ◌∙◌, inl, inr, arith, eqb-true, length-take-le, length-drop, get_or-take, get_or-drop}
use Rattle.std.proofs.lemmas.Bool.{cases_lt}
use Rattle.std.proofs.lemmas.List.{get_or-map, length-map, drop_more, take_all, get_or_append_left, get_or_at}
use Rattle.cob_decimal.specs.Decimal.{IsDigits, number_of}
use Rattle.cob_codec.specs.Zoned.{low_digit, digit_bytes}
use Rattle.cob_codec.specs.Separate.{IsSignedSeparately, separate_form, sign_byte}
use Rattle.cob_codec.specs.Packed.{halves}
use Rattle.cob_codec.proofs.PackedLemmas.{all_but_last}
use Rattle.cob_codec.proofs.SignLemmas.{digit_small}
use Rattle.cob_codec_lanes.specs.Lanes.{IsVector}
use Rattle.cob_codec_lanes.specs.Windows.{last_bytes, lane_between, first_lane, sign_lane, ArePowerPicks}
use Rattle.cob_codec_lanes.specs.Readers.{AreRead, AreTaken, IsReaderOf, LanesPass}
use Rattle.cob_codec_lanes.specs.Signs.{byte_meaning, own_meaning}
use Rattle.cob_codec_lanes.specs.declared.signs.SignByte.TheVariants.{Own}
use Rattle.cob_codec_lanes.specs.declared.reader.LaneReader.{LaneReader}
use Rattle.cob_codec_lanes.proofs.HalfLemmas.{all_digits, signed_as, inside_is, before_is, behind_is, last_byte, half_odd, wanted_digits}

-- The fields of a reader of items of so many digits with a separate sign.
pub record ReadsSeparate (count : ℕ) (leading : Bool) (wanted : ℕ) (shift : ℤ) (r : LaneReader) : Type 0 where
  pub most : count + 1 ≤ 16
  pub room : wanted ≤ 16
  pub least_high : (i : ℕ) → i < 16 → get_or r.bounds.least_high i 0 ≡ lane_between (first_lane leading count) (first_lane leading count + count) 15 0 i
  pub most_high : (i : ℕ) → i < 16 → get_or r.bounds.most_high i 0 ≡ 15
  pub most_low : (i : ℕ) → i < 16 → get_or r.bounds.most_low i 0 ≡ lane_between (first_lane leading count) (first_lane leading count + count) 9 15 i
  pub high : ArePowerPicks true (2 * first_lane leading count + 1) 2 count wanted shift r.high.lanes
  pub low : ArePowerPicks false (2 * first_lane leading count + 1) 2 count wanted shift r.low.lanes
  pub sign_is : r.sign ≡ Own
  pub place_is : r.place ≡ sign_lane leading count

abbrev part : Bool → ℕ → List ℕ → List ℕ
part leading count v = take count (drop (first_lane leading count) v)

lane_fits : (leading : Bool) (count : ℕ) → count + 1 ≤ 16 → first_lane leading count + count ≤ 16
lane_fits true count most = omega arith
lane_fits false count most = omega arith

-- an item is its digits' bytes, and that of its sign
parts_are : (leading : Bool) (count : ℕ) (v : List ℕ) → length v ≡ 16 → count + 1 ≤ 16
    → last_bytes (count + 1) v ≡ cond leading (get_or v (sign_lane leading count) 0 ∷ part leading count v) (part leading count v ++ get_or v (sign_lane leading count) 0 ∷ [])
parts_are true count v long most =
    let here : length v - (count + 1) ≡ 15 - count = omega arith in
    let next : 15 - count + 1 ≡ 16 - count = omega arith in
    let few : length (drop (16 - count) v) ≤ count = omega (arith, length-drop (16 - count) v) in
    ap (λ n. drop n v) here ∙ drop_more v (15 - count) 0 (omega arith) ∙ ap (λ n. get_or v (15 - count) 0 ∷ drop n v) next
    ∙ sym (ap (λ xs. get_or v (15 - count) 0 ∷ xs) (take_all count (drop (16 - count) v) few))
parts_are false count v long most =
    let here : length v - (count + 1) ≡ 15 - count = omega arith in
    let many : length (drop (15 - count) v) ≡ count + 1 = omega (arith, length-drop (15 - count) v) in
    let last : 15 - count + count ≡ 15 = omega arith in
    ap (λ n. drop n v) here ∙ all_but_last (drop (15 - count) v) count many
    ∙ ap (λ b. take count (drop (15 - count) v) ++ b ∷ []) (get_or-drop (15 - count) v count 0 ∙ ap (λ n. get_or v n 0) last)

pub digits_back : (bs : List ℕ) → ((k : ℕ) → k < length bs → get_or bs k 0 / 16 ≡ 15) → bs ≡ digit_bytes (map low_digit bs)
digits_back [] zones = refl
digits_back (b ∷ bs) zones =
    let zone : b / 16 ≡ 15 = zones 0 (omega arith) in
    let first : b ≡ 240 + b % 16 = omega arith in
    let rest : bs ≡ digit_bytes (map low_digit bs) = digits_back bs (λ k lt. zones (suc k) (omega arith)) in
    ap (λ x. x ∷ bs) first ∙ ap (λ xs. (240 + b % 16) ∷ xs) rest

pub own_is : (byte : ℕ) (minus : Bool) → own_meaning byte ≡ Some minus → byte ≡ sign_byte minus
own_is byte minus e = go (eqb byte 78) refl (eqb byte 96) refl minus e
  where
    go : (a : Bool) → eqb byte 78 ≡ a → (b : Bool) → eqb byte 96 ≡ b → (m : Bool) → cond a (Some false) (cond b (Some true) None) ≡ Some m → byte ≡ sign_byte m
    go true p b q false e = eqb-true _ _ p
    go true p b q true e = absurd (cc)
    go false p true q true e = eqb-true _ _ q
    go false p true q false e = absurd (cc)
    go false p false q m e = absurd (cc)

pub own_of : (minus : Bool) → own_meaning (sign_byte minus) ≡ Some minus
own_of true = refl
own_of false = refl

sign_said : (count : ℕ) (leading : Bool) (wanted : ℕ) (shift : ℤ) (r : LaneReader) (v : List ℕ) → ReadsSeparate count leading wanted shift r → byte_meaning r.sign r.signed (get_or v r.place 0) ≡ own_meaning (get_or v (sign_lane leading count) 0)
sign_said count leading wanted shift r v f =
    ap (λ s. byte_meaning s r.signed (get_or v r.place 0)) f.sign_is ∙ ap (λ p. own_meaning (get_or v p 0)) f.place_is

from_passing : (count : ℕ) (leading : Bool) (wanted : ℕ) (shift : ℤ) (r : LaneReader) → ReadsSeparate count leading wanted shift r
    → (v kept : List ℕ) (minus : Bool) → IsVector v → LanesPass r v minus → AreTaken r v kept → AreRead (IsSignedSeparately count leading (last_bytes (count + 1) v)) wanted shift minus kept
from_passing count leading wanted shift r f v kept minus vector passes taken =
    let first : ℕ = first_lane leading count in
    let bs : List ℕ = part leading count v in
    let ds : List ℕ = map low_digit bs in
    let most : first + count ≤ 16 = lane_fits leading count f.most in
    let size : length bs ≡ count = length-take-le count (drop first v) (omega (arith, length-drop first v, vector.long)) in
    let many : length ds ≡ count = length-map bs low_digit ∙ size in
    let byte : (k : ℕ) → k < count → get_or bs k 0 ≡ get_or v (first + k) 0 = λ k lt. get_or-take count (drop first v) k 0 lt ∙ get_or-drop first v k 0 in
    let is : (k : ℕ) → k < count → get_or ds k 0 ≡ get_or v (first + k) 0 % 16 = λ k lt. (let inside : k < length bs = omega arith in get_or-map low_digit bs k 0 0 inside ∙ ap (λ b. b % 16) (byte k lt)) in
    let valid : IsDigits ds = all_digits ds (λ k lt.
    let inside : k < count = omega arith in
    let lane : first + k < 16 = omega arith in
    let bound : get_or r.bounds.most_low (first + k) 0 ≡ 9 = f.most_low (first + k) lane ∙ inside_is first (first + count) 9 15 (first + k) (omega arith) (omega arith) in
    omega (arith, is k inside, passes.within.low (first + k) lane, bound)) in
    let zones : (k : ℕ) → k < length bs → get_or bs k 0 / 16 ≡ 15 = λ k lt.
    let inside : k < count = omega arith in
    let lane : first + k < 16 = omega arith in
    let bound : get_or r.bounds.least_high (first + k) 0 ≡ 15 = f.least_high (first + k) lane ∙ inside_is first (first + count) 15 0 (first + k) (omega arith) (omega arith) in
    ap (λ b. b / 16) (byte k inside) ∙ omega (arith, passes.within.least (first + k) lane, bound, vector.small (first + k)) in
    let sign : get_or v (sign_lane leading count) 0 ≡ sign_byte minus = own_is _ minus (sym (sign_said count leading wanted shift r v f) ∙ passes.sign) in
    record {
      negative = minus && ltb 0 (number_of ds);
      digits = ds;
      represented = record {
        count_is = many;
        valid = valid;
        minus = minus;
        text = parts_are leading count v vector.long f.most
            ∙ ap (λ s. cond leading (s ∷ bs) (bs ++ s ∷ [])) sign ∙ ap (λ xs. cond leading (sign_byte minus ∷ xs) (xs ++ sign_byte minus ∷ [])) (digits_back bs zones);
        sign = signed_as minus (number_of ds);
      };
      valid = valid;
      sign = signed_as minus (number_of ds);
      held = wanted_digits (2 * first + 1) 2 count wanted shift r v ds kept f.room (λ k lt. omega arith) many valid
          (λ k lt. (let half : 2 * first + 1 + 2 * k ≡ 2 * (first + k) + 1 = omega arith in is k lt ∙ sym (ap (λ m. get_or (halves v) m 0) half ∙ half_odd v (first + k))))
          f.high f.low taken;
    }

-- the bytes of an item that represents a number
sign_there : (leading minus : Bool) (count : ℕ) (v ds : List ℕ) → length v ≡ 16 → count + 1 ≤ 16 → length ds ≡ count → last_bytes (count + 1) v ≡ separate_form leading minus ds → get_or v (sign_lane leading count) 0 ≡ sign_byte minus
sign_there true minus count v ds long most many text =
    let here : 16 - (count + 1) + 0 ≡ 15 - count = omega arith in
    sym (last_byte (count + 1) v 0 long ∙ ap (λ n. get_or v n 0) here) ∙ ap (λ xs. get_or xs 0 0) text
sign_there false minus count v ds long most many text =
    let here : 16 - (count + 1) + count ≡ 15 = omega arith in
    let size : length (digit_bytes ds) ≡ count = length-map ds (λ d. 240 + d) ∙ many in
    sym (last_byte (count + 1) v count long ∙ ap (λ n. get_or v n 0) here) ∙ ap (λ xs. get_or xs count 0) text ∙ get_or_at (digit_bytes ds) (sign_byte minus) [] 0 count size

digit_there : (leading minus : Bool) (count : ℕ) (v ds : List ℕ) (k : ℕ) → length v ≡ 16 → count + 1 ≤ 16 → length ds ≡ count → k < count → last_bytes (count + 1) v ≡ separate_form leading minus ds → get_or v (first_lane leading count + k) 0 ≡ 240 + get_or ds k 0
digit_there true minus count v ds k long most many lt text =
    let here : 16 - (count + 1) + suc k ≡ 16 - count + k = omega arith in
    let inside : k < length ds = omega arith in
    let next : get_or (sign_byte minus ∷ digit_bytes ds) (suc k) 0 ≡ get_or (digit_bytes ds) k 0 = refl in
    sym (last_byte (count + 1) v (suc k) long ∙ ap (λ n. get_or v n 0) here) ∙ ap (λ xs. get_or xs (suc k) 0) text ∙ next ∙ get_or-map (λ d. 240 + d) ds k 0 0 inside
digit_there false minus count v ds k long most many lt text =
    let here : 16 - (count + 1) + k ≡ 15 - count + k = omega arith in
    let inside : k < length ds = omega arith in
    let size : length (digit_bytes ds) ≡ count = length-map ds (λ d. 240 + d) ∙ many in
    sym (last_byte (count + 1) v k long ∙ ap (λ n. get_or v n 0) here) ∙ ap (λ xs. get_or xs k 0) text
    ∙ get_or_append_left (digit_bytes ds) (sign_byte minus ∷ []) 0 k (omega arith) ∙ get_or-map (λ d. 240 + d) ds k 0 0 inside

to_passing : (count : ℕ) (leading : Bool) (wanted : ℕ) (shift : ℤ) (r : LaneReader) → ReadsSeparate count leading wanted shift r
    → (v : List ℕ) (negative : Bool) (digits : List ℕ) → IsVector v → IsSignedSeparately count leading (last_bytes (count + 1) v) negative digits → (minus : Bool) × LanesPass r v minus
to_passing count leading wanted shift r f v negative digits vector z =
    let first : ℕ = first_lane leading count in
    let to : ℕ = first + count in
    let most : to ≤ 16 = lane_fits leading count f.most in
    let byte : (i : ℕ) → first ≤ i → i < to → get_or v i 0 ≡ 240 + get_or digits (i - first) 0 = λ i ge lt.
    let there : first + (i - first) ≡ i = omega arith in
    sym (ap (λ n. get_or v n 0) there) ∙ digit_there leading z.minus count v digits (i - first) vector.long f.most z.count_is (omega arith) z.text in
    let small : (i : ℕ) → first ≤ i → i < to → get_or digits (i - first) 0 < 10 = λ i ge lt. digit_small digits (i - first) z.valid (omega (arith, z.count_is)) in (
      z.minus,
      record {
        within = record {
          least = λ i lt.
              let bound = f.least_high i lt in
              elim (cases_lt i first) [
                | inl before ↦ omega (arith, bound, before_is first to 15 0 i before)
                | inr ge ↦ elim (cases_lt i to) [
                  | inl inside ↦ omega (arith, bound, inside_is first to 15 0 i ge inside, byte i ge inside)
                  | inr beyond ↦ omega (arith, bound, behind_is first to 15 0 i beyond)
                ]
              ];
          most = λ i lt. omega (arith, f.most_high i lt, vector.small i);
          low = λ i lt.
              let bound = f.most_low i lt in
              elim (cases_lt i first) [
                | inl before ↦ omega (arith, bound, before_is first to 9 15 i before)
                | inr ge ↦ elim (cases_lt i to) [
                  | inl inside ↦ omega (arith, bound, inside_is first to 9 15 i ge inside, byte i ge inside, small i ge inside)
                  | inr beyond ↦ omega (arith, bound, behind_is first to 9 15 i beyond)
                ]
              ];
        };
        sign = sign_said count leading wanted shift r v f ∙ ap own_meaning (sign_there leading z.minus count v digits vector.long f.most z.count_is z.text) ∙ own_of z.minus;
      },
    )

reads_separate : (count : ℕ) (leading : Bool) (wanted : ℕ) (shift : ℤ) (r : LaneReader) → ReadsSeparate count leading wanted shift r → IsReaderOf (IsSignedSeparately count leading) (count + 1) wanted shift r
reads_separate count leading wanted shift r f = record {
  fits = f.most;
  room = f.room;
  reads = from_passing count leading wanted shift r f;
  passes = to_passing count leading wanted shift r f;
}

-- the same, where the number of digits is another's
pub separate_reader : (n count : ℕ) (leading : Bool) (wanted : ℕ) (shift : ℤ) (r : LaneReader) → n ≡ count → ReadsSeparate n leading wanted shift r → IsReaderOf (IsSignedSeparately count leading) (count + 1) wanted shift r
separate_reader n count leading wanted shift r e f = subst (λ k. IsReaderOf (IsSignedSeparately k leading) (k + 1) wanted shift r) e (reads_separate n leading wanted shift r f)
