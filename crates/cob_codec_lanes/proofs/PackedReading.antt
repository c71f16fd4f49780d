-- Packed items, read.
use Rattle.std.proofs.Common.{◌≡◌, ◌≢◌, ℕ, ◌+◌, ◌-◌, ◌*◌, ◌/◌, ◌%◌, ◌<◌, ◌≤◌, ◌&&◌, ℤ, Bool, true, false, cond, ltb, eqb, List, [], ◌∷◌, ◌++◌, length, get_or, take, drop, replicate, refl, sym, ap, subst, ◌∙◌, inl, inr, arith, eq-eqb, ne_eqb, length-take-le, length-drop, get_or-take, get_or-drop}
use Rattle.std.proofs.lemmas.Bool.{cases_lt, cases_eq}
use Rattle.std.proofs.lemmas.List.{take-append-drop, take_more, get_or-append_right, get_or_append_left, get_or_at, length-replicate, get_or-replicate}
use Rattle.cob_decimal.specs.Decimal.{IsDigits, number_of}
use Rattle.cob_codec.specs.Sign.{sign_meaning}
use Rattle.cob_codec.specs.Packed.{IsPacked, halves, pad_count, packed_halves}
use Rattle.cob_codec.proofs.PackedLaws.{length-halves}
use Rattle.cob_codec.proofs.PackedLemmas.{all_but_last}
use Rattle.cob_codec.proofs.SignLemmas.{digit_small}
use Rattle.cob_codec_lanes.specs.Lanes.{AreBounded, IsVector}
use Rattle.cob_codec_lanes.specs.Windows.{last_bytes, lane_between, pad_bound, ArePowerPicks}
use Rattle.cob_codec_lanes.specs.Readers.{AreRead, AreTaken, IsReaderOf, LanesPass}
use Rattle.cob_codec_lanes.specs.Signs.{byte_meaning}
use Rattle.cob_codec_lanes.specs.declared.signs.SignByte.TheVariants.{LowHalf}
use Rattle.cob_codec_lanes.specs.declared.reader.LaneReader.{LaneReader}
use Rattle.cob_codec_lanes.proofs.HalfLemmas.{all_digits, signed_as, inside_is, before_is, behind_is, last_byte, last_length, last_half, high_half, low_half, wanted_digits}

-- The fields of a reader of packed items of so many digits.
pub record ReadsPacked (count : ℕ) (signed : Bool) (wanted : ℕ) (shift : ℤ) (r : LaneReader) : Type 0 where
  pub some : 0 < count
  pub most : count / 2 + 1 ≤ 16
  pub room : wanted ≤ 16
  pub least_high : (i : ℕ) → i < 16 → get_or r.bounds.least_high i 0 ≡ 0
  pub most_high : (i : ℕ) → i < 16 → get_or r.bounds.most_high i 0 ≡ cond (eqb i (15 - count / 2)) (pad_bound count) (lane_between (15 - count / 2) 16 9 15 i)
  pub most_low : (i : ℕ) → i < 16 → get_or r.bounds.most_low i 0 ≡ lane_between (15 - count / 2) 15 9 15 i
  pub high : ArePowerPicks true (31 - count) 1 count wanted shift r.high.lanes
  pub low : ArePowerPicks false (31 - count) 1 count wanted shift r.low.lanes
  pub sign_is : r.sign ≡ LowHalf
  pub signed_is : r.signed ≡ signed
  pub place_is : r.place ≡ 15

-- ---- half bytes of an item

item_high : (size : ℕ) (v : List ℕ) (m : ℕ) → length v ≡ 16 → m % 2 ≡ 0 → get_or (halves (last_bytes size v)) m 0 ≡ get_or v (16 - size + m / 2) 0 / 16
item_high size v m long even = high_half (last_bytes size v) m even ∙ ap (λ b. b / 16) (last_byte size v (m / 2) long)

item_low : (size : ℕ) (v : List ℕ) (m : ℕ) → length v ≡ 16 → m % 2 ≡ 1 → get_or (halves (last_bytes size v)) m 0 ≡ get_or v (16 - size + m / 2) 0 % 16
item_low size v m long odd = low_half (last_bytes size v) m odd ∙ ap (λ b. b % 16) (last_byte size v (m / 2) long)

-- the half bytes but the pad are the digits and the sign's code
split : (count : ℕ) (h : List ℕ) → length h ≡ pad_count count + count + 1 → (pad_count count ≡ 1 → get_or h 0 0 ≡ 0) → h ≡ packed_halves count (take count (drop (pad_count count) h)) (get_or h (pad_count count + count) 0)
split count h long first =
    let pad : ℕ = pad_count count in
    let few : pad < 2 = omega arith in
    let rest : List ℕ = drop pad h in
    let many : length rest ≡ count + 1 = omega (arith, length-drop pad h) in
    let last : rest ≡ take count rest ++ get_or rest count 0 ∷ [] = all_but_last rest count many in
    let code : get_or rest count 0 ≡ get_or h (pad + count) 0 = get_or-drop pad h count 0 in
    let front : take pad h ≡ replicate pad 0 =
    elim (cases_eq pad 1) [
      | inl one ↦
          let some : 0 < length h = omega arith in
          let nine : take (0 + 1) h ≡ take 0 h ++ get_or h 0 0 ∷ [] = take_more h 0 0 some in
          let e : pad ≡ 0 + 1 = omega arith in
          ap (λ n. take n h) e ∙ nine ∙ ap (λ d. d ∷ []) (first one) ∙ sym (ap (λ n. replicate n 0) one)
      | inr other ↦ (let none : pad ≡ 0 = omega arith in ap (λ n. take n h) none ∙ sym (ap (λ n. replicate n 0) none))
    ] in
    sym (take-append-drop pad h) ∙ ap (λ xs. xs ++ rest) front ∙ ap (λ xs. replicate pad 0 ++ xs) (last ∙ ap (λ c. take count rest ++ c ∷ []) code)

-- a digit of an item stands at its half byte
digit_half : (count : ℕ) (h : List ℕ) (k : ℕ) → k < count → get_or (take count (drop (pad_count count) h)) k 0 ≡ get_or h (pad_count count + k) 0
digit_half count h k lt = get_or-take count (drop (pad_count count) h) k 0 lt ∙ get_or-drop (pad_count count) h k 0

nine : (b : Bool) → cond {A = ℕ} b 0 9 ≤ 9
nine true = omega arith
nine false = omega arith

-- a half byte of an item that passes
half_passing : (count : ℕ) (signed : Bool) (wanted : ℕ) (shift : ℤ) (r : LaneReader) (v : List ℕ) → ReadsPacked count signed wanted shift r → IsVector v → AreBounded r.bounds.least_high r.bounds.most_high r.bounds.most_low v → (m : ℕ) → m < pad_count count + count
    → (get_or (halves (last_bytes (count / 2 + 1) v)) m 0 < 10) × (pad_count count ≡ 1 → m ≡ 0 → get_or (halves (last_bytes (count / 2 + 1) v)) m 0 ≡ 0)
half_passing count signed wanted shift r v f vector within m lt =
    let size : ℕ = count / 2 + 1 in
    let front : ℕ = 15 - count / 2 in
    let most : count / 2 + 1 ≤ 16 = f.most in
    let i : ℕ = 16 - size + m / 2 in
    let lane : i < 16 = omega arith in
    let from : front ≤ i = omega arith in
    elim (cases_eq (m % 2) 0) [
      | inl even ↦
          let is : get_or (halves (last_bytes size v)) m 0 ≡ get_or v i 0 / 16 = item_high size v m vector.long even in
          elim (cases_eq i front) [
            | inl first ↦
                let at : eqb i front ≡ true = eq-eqb _ _ first in
                let bound : get_or r.bounds.most_high i 0 ≡ cond (eqb (count % 2) 0) 0 9 = f.most_high i lane ∙ ap (λ b. cond b (cond (eqb (count % 2) 0) 0 9) (lane_between front 16 9 15 i)) at in (
                  omega (arith, is, within.most i lane, bound, nine (eqb (count % 2) 0)),
                  λ one zero_is. (let none : count % 2 ≡ 0 = omega arith in let e : eqb (count % 2) 0 ≡ true = eq-eqb _ _ none in let nothing : cond {A = ℕ} (eqb (count % 2) 0) 0 9 ≡ 0 = ap (λ b. cond {A = ℕ} b 0 9) e in omega (arith, is, within.most i lane, bound, nothing)),
                )
            | inr later ↦
                let elsewhere : eqb i front ≡ false = ne_eqb _ _ later in
                let bound : get_or r.bounds.most_high i 0 ≡ 9 = f.most_high i lane ∙ ap (λ b. cond b (cond (eqb (count % 2) 0) 0 9) (lane_between front 16 9 15 i)) elsewhere ∙ inside_is front 16 9 15 i from lane in
                (omega (arith, is, within.most i lane, bound), λ one zero_is. absurd (omega arith))
          ]
      | inr odd ↦
          let one : m % 2 ≡ 1 = omega arith in
          let is : get_or (halves (last_bytes size v)) m 0 ≡ get_or v i 0 % 16 = item_low size v m vector.long one in
          let inner : i < 15 = omega arith in
          let bound : get_or r.bounds.most_low i 0 ≡ 9 = f.most_low i lane ∙ inside_is front 15 9 15 i from inner in
          (omega (arith, is, within.low i lane, bound), λ p zero_is. absurd (omega arith))
    ]

-- the code of the sign
code_at : (count : ℕ) (v : List ℕ) → length v ≡ 16 → count / 2 + 1 ≤ 16 → get_or (halves (last_bytes (count / 2 + 1) v)) (pad_count count + count) 0 ≡ get_or v 15 0 % 16
code_at count v long most =
    let m : ℕ = pad_count count + count in
    let odd : m % 2 ≡ 1 = omega arith in
    let last : 16 - (count / 2 + 1) + m / 2 ≡ 15 = omega arith in
    item_low (count / 2 + 1) v m long odd ∙ ap (λ k. get_or v k 0 % 16) last

sign_said : (count : ℕ) (signed : Bool) (wanted : ℕ) (shift : ℤ) (r : LaneReader) (v : List ℕ) → ReadsPacked count signed wanted shift r → byte_meaning r.sign r.signed (get_or v r.place 0) ≡ sign_meaning signed (get_or v 15 0 % 16)
sign_said count signed wanted shift r v f =
    ap (λ s. byte_meaning s r.signed (get_or v r.place 0)) f.sign_is ∙ ap (λ b. sign_meaning b (get_or v r.place 0 % 16)) f.signed_is ∙ ap (λ p. sign_meaning signed (get_or v p 0 % 16)) f.place_is

from_passing : (count : ℕ) (signed : Bool) (wanted : ℕ) (shift : ℤ) (r : LaneReader) → ReadsPacked count signed wanted shift r
    → (v kept : List ℕ) (minus : Bool) → IsVector v → LanesPass r v minus → AreTaken r v kept → AreRead (IsPacked count signed (last_bytes (count / 2 + 1) v)) wanted shift minus kept
from_passing count signed wanted shift r f v kept minus vector passes taken =
    let size : ℕ = count / 2 + 1 in
    let item : List ℕ = last_bytes size v in
    let h : List ℕ = halves item in
    let pad : ℕ = pad_count count in
    let most : count / 2 + 1 ≤ 16 = f.most in
    let bytes : length item ≡ size = last_length size v vector.long most in
    let all : length h ≡ pad + count + 1 = omega (arith, length-halves item) in
    let ds : List ℕ = take count (drop pad h) in
    let many : length ds ≡ count = length-take-le count (drop pad h) (omega (arith, length-drop pad h)) in
    let valid : IsDigits ds = all_digits ds (λ k lt.
    let inside : k < count = omega arith in
    let there : pad + k < pad + count = omega arith in
    omega (arith, digit_half count h k inside, (half_passing count signed wanted shift r v f vector passes.within (pad + k) there).0)) in
    let first : pad ≡ 1 → get_or h 0 0 ≡ 0 = λ one. (half_passing count signed wanted shift r v f vector passes.within 0 (omega arith)).1 one refl in
    let code : get_or h (pad + count) 0 ≡ get_or v 15 0 % 16 = code_at count v vector.long most in
    record {
      negative = minus && ltb 0 (number_of ds);
      digits = ds;
      represented = record {
        count_is = many;
        valid = valid;
        code = get_or h (pad + count) 0;
        text = split count h all first;
        minus = minus;
        meaning = ap (sign_meaning signed) code ∙ sym (sign_said count signed wanted shift r v f) ∙ passes.sign;
        sign = signed_as minus (number_of ds);
      };
      valid = valid;
      sign = signed_as minus (number_of ds);
      held = wanted_digits (31 - count) 1 count wanted shift r v ds kept f.room (λ k lt. omega arith) many valid
          (λ k lt. (let half : 32 - 2 * size + (pad + k) ≡ 31 - count + 1 * k = omega arith in digit_half count h k lt ∙ last_half size v (pad + k) vector.long most ∙ ap (λ m. get_or (halves v) m 0) half))
          f.high f.low taken;
    }

-- a half byte of what represents a number
half_of : (count : ℕ) (ds : List ℕ) (code m : ℕ) → length ds ≡ count → IsDigits ds → m < pad_count count + count → (get_or (packed_halves count ds code) m 0 < 10) × (pad_count count ≡ 1 → m ≡ 0 → get_or (packed_halves count ds code) m 0 ≡ 0)
half_of count ds code m many valid lt =
    let pad : ℕ = pad_count count in
    let zeros : length (replicate {A = ℕ} pad 0) ≡ pad = length-replicate pad 0 in
    elim (cases_lt m pad) [
      | inl before ↦
          let e : get_or (packed_halves count ds code) m 0 ≡ 0 = get_or_append_left (replicate pad 0) (ds ++ code ∷ []) 0 m (omega arith) ∙ get_or-replicate pad m 0 0 before in
          (omega (arith, e), λ one is. e)
      | inr from ↦
          let inside : m - pad < length ds = omega arith in
          let e : get_or (packed_halves count ds code) m 0 ≡ get_or ds (m - pad) 0 = get_or-append_right (replicate pad 0) (ds ++ code ∷ []) pad m 0 zeros from ∙ get_or_append_left ds (code ∷ []) 0 (m - pad) inside in
          (omega (arith, e, digit_small ds (m - pad) valid inside), λ one is. absurd (omega arith))
    ]

-- the code of what represents a number
code_of : (count : ℕ) (ds : List ℕ) (code : ℕ) → length ds ≡ count → get_or (packed_halves count ds code) (pad_count count + count) 0 ≡ code
code_of count ds code many =
    let pad : ℕ = pad_count count in
    let zeros : length (replicate {A = ℕ} pad 0) ≡ pad = length-replicate pad 0 in
    let behind : pad + count - pad ≡ count = omega arith in
    get_or-append_right (replicate pad 0) (ds ++ code ∷ []) pad (pad + count) 0 zeros (omega arith) ∙ ap (λ i. get_or (ds ++ code ∷ []) i 0) behind ∙ get_or_at ds code [] 0 count many

to_passing : (count : ℕ) (signed : Bool) (wanted : ℕ) (shift : ℤ) (r : LaneReader) → ReadsPacked count signed wanted shift r
    → (v : List ℕ) (negative : Bool) (digits : List ℕ) → IsVector v → IsPacked count signed (last_bytes (count / 2 + 1) v) negative digits → (minus : Bool) × LanesPass r v minus
to_passing count signed wanted shift r f v negative digits vector p =
    let size : ℕ = count / 2 + 1 in
    let front : ℕ = 15 - count / 2 in
    let item : List ℕ = last_bytes size v in
    let pad : ℕ = pad_count count in
    let most : count / 2 + 1 ≤ 16 = f.most in
    let small_at : (m : ℕ) → m < pad + count → get_or (halves item) m 0 < 10 = λ m lt. omega (arith, (half_of count digits p.code m p.count_is p.valid lt).0, ap (λ xs. get_or xs m 0) p.text) in
    let pad_at : (m : ℕ) → m < pad + count → pad ≡ 1 → m ≡ 0 → get_or (halves item) m 0 ≡ 0 = λ m lt one is. ap (λ xs. get_or xs m 0) p.text ∙ (half_of count digits p.code m p.count_is p.valid lt).1 one is in (
      p.minus,
      record {
        within = record {
          least = λ i lt. omega (arith, f.least_high i lt);
          most = λ i lt.
              let bound = f.most_high i lt in
              let top : get_or v i 0 / 16 ≤ 15 = omega (arith, vector.small i) in
              elim (cases_lt i front) [
                | inl before ↦
                    let other : i ≢ front = λ e. omega arith in
                    let e : eqb i front ≡ false = ne_eqb _ _ other in
                    omega (arith, top, bound ∙ ap (λ b. cond b (cond (eqb (count % 2) 0) 0 9) (lane_between front 16 9 15 i)) e ∙ before_is front 16 9 15 i before)
                | inr ge ↦
                    let m : ℕ = 2 * (i - front) in
                    let there : m < pad + count = omega arith in
                    let here : 16 - size + m / 2 ≡ i = omega arith in
                    let half : get_or (halves item) m 0 ≡ get_or v i 0 / 16 = item_high size v m vector.long (omega arith) ∙ ap (λ k. get_or v k 0 / 16) here in
                    elim (cases_eq i front) [
                      | inl first ↦
                          let at : eqb i front ≡ true = eq-eqb _ _ first in
                          let is : get_or r.bounds.most_high i 0 ≡ cond (eqb (count % 2) 0) 0 9 = bound ∙ ap (λ b. cond b (cond (eqb (count % 2) 0) 0 9) (lane_between front 16 9 15 i)) at in
                          elim (cases_eq (count % 2) 0) [
                            | inl even ↦ (let none : get_or (halves item) m 0 ≡ 0 = pad_at m there (omega arith) (omega arith) in omega arith)
                            | inr odd ↦
                                let e : eqb (count % 2) 0 ≡ false = ne_eqb _ _ odd in
                                let up : cond {A = ℕ} (eqb (count % 2) 0) 0 9 ≡ 9 = ap (λ b. cond {A = ℕ} b 0 9) e in
                                omega (arith, small_at m there)
                          ]
                      | inr later ↦
                          let e : eqb i front ≡ false = ne_eqb _ _ later in
                          omega (arith, half, small_at m there, bound ∙ ap (λ b. cond b (cond (eqb (count % 2) 0) 0 9) (lane_between front 16 9 15 i)) e ∙ inside_is front 16 9 15 i ge lt)
                    ]
              ];
          low = λ i lt.
              let bound = f.most_low i lt in
              let bottom : get_or v i 0 % 16 ≤ 15 = omega arith in
              elim (cases_lt i front) [
                | inl before ↦ omega (arith, bottom, bound, before_is front 15 9 15 i before)
                | inr ge ↦ elim (cases_lt i 15) [
                  | inr last ↦ omega (arith, bottom, bound, behind_is front 15 9 15 i last)
                  | inl inner ↦
                      let m : ℕ = 2 * (i - front) + 1 in
                      let there : m < pad + count = omega arith in
                      let here : 16 - size + m / 2 ≡ i = omega arith in
                      let half : get_or (halves item) m 0 ≡ get_or v i 0 % 16 = item_low size v m vector.long (omega arith) ∙ ap (λ k. get_or v k 0 % 16) here in
                      omega (arith, half, small_at m there, bound, inside_is front 15 9 15 i ge inner)
                ]
              ];
        };
        sign = sign_said count signed wanted shift r v f
            ∙ ap (sign_meaning signed) (sym (code_at count v vector.long most) ∙ ap (λ xs. get_or xs (pad + count) 0) p.text ∙ code_of count digits p.code p.count_is) ∙ p.meaning;
      },
    )

reads_packed : (count : ℕ) (signed : Bool) (wanted : ℕ) (shift : ℤ) (r : LaneReader) → ReadsPacked count signed wanted shift r → IsReaderOf (IsPacked count signed) (count / 2 + 1) wanted shift r
reads_packed count signed wanted shift r f = record {
  fits = f.most;
  room = f.room;
  reads = from_passing count signed wanted shift r f;
  passes = to_passing count signed wanted shift r f;
}

-- the same, where the number of digits is another's
pub packed_reader : (n count : ℕ) (signed : Bool) (wanted : ℕ) (shift : ℤ) (r : LaneReader) → n ≡ count → ReadsPacked n signed wanted shift r → IsReaderOf (IsPacked count signed) (count / 2 + 1) wanted shift r
packed_reader n count signed wanted shift r e f = subst (λ k. IsReaderOf (IsPacked k signed) (k / 2 + 1) wanted shift r) e (reads_packed n signed wanted shift r f)
