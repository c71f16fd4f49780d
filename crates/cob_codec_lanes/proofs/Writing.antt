-- Items, written.
use Rattle.std.proofs.Common.{◌≡◌, ◌≢◌, ℕ, zero, suc, ◌+◌, ◌-◌, ◌*◌, ◌/◌, ◌%◌, ◌<◌, ◌≤◌, ◌&&◌, Bool, true, false, cond, ltb, leb, eqb, List, [], ◌∷◌, ◌++◌, length, get_or, take, replicate, refl, sym, ap, subst, ◌∙◌, inl, inr, arith, eq-eqb, ne_eqb, lt-ltb, le-ltb, leb-true, leb-false, ltb-true, eqb-true, length-take-le, length-append, get_or-take, get_or-set_other, get_or-set_same}
use Rattle.std.proofs.Math.ListN.{set}
use Rattle.std.proofs.lemmas.Bool.{cases_lt, cases_eq}
use Rattle.std.proofs.lemmas.List.{ext_get_or, get_or-map, length-map, get_or-append_right, get_or_append_left, get_or_at, length-replicate, get_or-replicate}
use Rattle.cob_codec.specs.Sign.{sign_code, sign_place}
use Rattle.cob_codec.specs.Zoned.{digit_bytes, zoned_form}
use Rattle.cob_codec.specs.Separate.{separate_form, sign_byte}
use Rattle.cob_codec.specs.Packed.{bytes_of_halves, pad_count, packed_halves, packed_form}
use Rattle.cob_codec.proofs.ZonedLaws.{stored_length}
use Rattle.cob_codec.proofs.SeparateLaws as separate
use Rattle.cob_codec.proofs.PackedLaws.{length-joined}
use Rattle.cob_codec.proofs.SignLemmas.{code_small}
use Rattle.cob_codec_lanes.specs.Lanes.{AreTens, picked_at}
use Rattle.cob_codec_lanes.specs.Windows.{lane_between, digit_pick, first_byte, own_sign_byte, AreDigitPicks}
use Rattle.cob_codec_lanes.specs.Writers.{AreMade, IsWriterOf, base_of}
use Rattle.cob_codec_lanes.specs.declared.writer.LaneWriter.{LaneWriter}
use Rattle.cob_codec_lanes.proofs.HalfLemmas.{inside_is}

-- ---- digits at their half bytes

leb_of : (a b : ℕ) → a ≤ b → leb a b ≡ true
leb_of a b le = go (leb a b) refl
  where
    go : (t : Bool) → leb a b ≡ t → t ≡ true
    go true e = refl
    go false e = absurd (omega (arith, leb-false _ _ e))

-- a half byte that has a digit
pub pick_is : (start apart count half k : ℕ) → start ≤ half → (half - start) % apart ≡ 0 → (half - start) / apart ≡ k → k < count → digit_pick start apart count half ≡ k
pick_is start apart count half k from whole is lt =
    let e : leb start half ≡ true = leb_of start half from in
    let f : eqb ((half - start) % apart) 0 ≡ true = eq-eqb _ _ whole in
    let g : ltb ((half - start) / apart) count ≡ true = ap (λ n. ltb n count) is ∙ lt-ltb _ _ lt in
    ap (λ b. cond (b && (eqb ((half - start) % apart) 0 && ltb ((half - start) / apart) count)) ((half - start) / apart) 128) e
    ∙ ap (λ b. cond (b && ltb ((half - start) / apart) count) ((half - start) / apart) 128) f
    ∙ ap (λ b. cond b ((half - start) / apart) 128) g ∙ is

-- one that has none
pub no_pick : (start apart count half : ℕ) → (leb start half ≡ true → (half - start) % apart ≡ 0 → count ≤ (half - start) / apart) → digit_pick start apart count half ≡ 128
no_pick start apart count half beyond = go (leb start half) refl (eqb ((half - start) % apart) 0) refl (ltb ((half - start) / apart) count) refl
  where
    go : (a : Bool) → leb start half ≡ a → (b : Bool) → eqb ((half - start) % apart) 0 ≡ b → (c : Bool) → ltb ((half - start) / apart) count ≡ c → cond (a && (b && c)) ((half - start) / apart) 128 ≡ 128
    go false p b q c r = refl
    go true p false q c r = refl
    go true p true q false r = refl
    go true p true q true r = absurd (omega (arith, beyond p (eqb-true _ _ q), ltb-true _ _ r))

pub lane_is : (digits : List ℕ) (j : ℕ) → j < 16 → picked_at digits j ≡ get_or digits j 0
lane_is digits j lt = ap (λ b. cond b (get_or digits j 0) 0) (lt-ltb _ _ lt)

pub picked_small : (digits : List ℕ) (j : ℕ) → AreTens digits → picked_at digits j < 10
picked_small digits j tens = elim (cases_lt j 16) [
  | inl lt ↦ omega (arith, lane_is digits j lt, tens j lt)
  | inr ge ↦ (let e : picked_at digits j ≡ 0 = ap (λ b. cond b (get_or digits j 0) 0) (le-ltb _ _ ge) in omega arith)
]

-- what the fields of a writer put into a byte
high_is : (start apart count i p : ℕ) (w : LaneWriter) (digits : List ℕ) → AreDigitPicks true start apart count w.high.lanes → i < 16 → digit_pick start apart count (2 * i) ≡ p → picked_at digits (get_or w.high.lanes i 0) ≡ picked_at digits p
high_is start apart count i p w digits high lt e = ap (picked_at digits) (high i lt ∙ e)

low_is : (start apart count i p : ℕ) (w : LaneWriter) (digits : List ℕ) → AreDigitPicks false start apart count w.low.lanes → i < 16 → digit_pick start apart count (2 * i + 1) ≡ p → picked_at digits (get_or w.low.lanes i 0) ≡ picked_at digits p
low_is start apart count i p w digits low lt e = ap (picked_at digits) (low i lt ∙ e)

-- what is added for either sign
pub two_bases : (w : LaneWriter) (f : Bool → ℕ → ℕ) → ((i : ℕ) → i < 16 → get_or w.plus i 0 ≡ f false i) → ((i : ℕ) → i < 16 → get_or w.minus i 0 ≡ f true i) → (minus : Bool) (i : ℕ) → i < 16 → get_or (base_of w minus) i 0 ≡ f minus i
two_bases w f plus minus false i lt = plus i lt
two_bases w f plus minus true i lt = minus i lt

-- ---- zoned items

-- The fields of a writer of zoned items of so many digits.
pub record WritesZoned (count : ℕ) (signed leading : Bool) (w : LaneWriter) : Type 0 where
  pub some : 0 < count
  pub most : count ≤ 16
  pub high : AreDigitPicks true 1 2 count w.high.lanes
  pub low : AreDigitPicks false 1 2 count w.low.lanes
  pub base : (minus : Bool) (i : ℕ) → i < 16
      → get_or (base_of w minus) i 0 ≡ cond (eqb i (sign_place signed leading count)) (sign_code signed minus * 16) (lane_between 0 count 240 0 i)

zoned_byte : (count : ℕ) (signed leading minus : Bool) (w : LaneWriter) (digits bytes : List ℕ) (k : ℕ) → WritesZoned count signed leading w → AreTens digits → AreMade w minus digits bytes → k < count
    → get_or bytes k 0 ≡ get_or digits k 0 + cond (eqb k (sign_place signed leading count)) (sign_code signed minus * 16) 240
zoned_byte count signed leading minus w digits bytes k f tens made lt =
    let lane : k < 16 = omega (arith, f.most) in
    let top : picked_at digits (get_or w.high.lanes k 0) ≡ 0 = high_is 1 2 count k 128 w digits f.high lane (no_pick 1 2 count (2 * k) (λ from whole. absurd (omega (arith, leb-true _ _ from)))) in
    let bottom : picked_at digits (get_or w.low.lanes k 0) ≡ get_or digits k 0 =
    low_is 1 2 count k k w digits f.low lane (pick_is 1 2 count (2 * k + 1) k (omega arith) (omega arith) (omega arith) lt) ∙ lane_is digits k lane in
    let digit : get_or digits k 0 < 10 = tens k lane in
    let inside : lane_between 0 count 240 0 k ≡ 240 = inside_is 0 count 240 0 k (omega arith) lt in
    let code : sign_code signed minus < 16 = small_code signed minus in
    elim (cases_eq k (sign_place signed leading count)) [
      | inl at ↦
          let e : eqb k (sign_place signed leading count) ≡ true = eq-eqb _ _ at in
          let base : get_or (base_of w minus) k 0 ≡ sign_code signed minus * 16 = f.base minus k lane ∙ ap (λ b. cond b (sign_code signed minus * 16) (lane_between 0 count 240 0 k)) e in
          let said : cond (eqb k (sign_place signed leading count)) (sign_code signed minus * 16) 240 ≡ sign_code signed minus * 16 = ap (λ b. cond b (sign_code signed minus * 16) 240) e in
          omega (arith, made.each k lane, top, bottom, base, said)
      | inr other ↦
          let e : eqb k (sign_place signed leading count) ≡ false = ne_eqb _ _ other in
          let base : get_or (base_of w minus) k 0 ≡ 240 = f.base minus k lane ∙ ap (λ b. cond b (sign_code signed minus * 16) (lane_between 0 count 240 0 k)) e ∙ inside in
          let said : cond (eqb k (sign_place signed leading count)) (sign_code signed minus * 16) 240 ≡ 240 = ap (λ b. cond b (sign_code signed minus * 16) 240) e in
          omega (arith, made.each k lane, top, bottom, base, said)
    ]
  where
    small_code : (signed minus : Bool) → sign_code signed minus < 16
    small_code signed minus = code_small signed minus

writes_zoned : (count : ℕ) (signed leading : Bool) (w : LaneWriter) → WritesZoned count signed leading w → IsWriterOf (zoned_form signed leading) count count w
writes_zoned count signed leading w f = record {
  room = f.most;
  fits = f.most;
  writes = λ minus digits bytes long tens made.
      let ds : List ℕ = take count digits in
      let many : length ds ≡ count = length-take-le count digits (omega (arith, f.most)) in
      let place : ℕ = sign_place signed leading (length ds) in
      let same : place ≡ sign_place signed leading count = ap (sign_place signed leading) many in
      let size : length (digit_bytes ds) ≡ count = length-map ds (λ d. 240 + d) ∙ many in
      let whole : length (zoned_form signed leading minus ds) ≡ count = stored_length signed leading minus ds ∙ many in
      let front : length (take count bytes) ≡ count = length-take-le count bytes (omega (arith, f.most, made.long)) in
      ext_get_or 0 _ _ (front ∙ sym whole) (λ k lt.
      let inside : k < count = omega arith in
      let digit : get_or ds k 0 ≡ get_or digits k 0 = get_or-take count digits k 0 inside in
      let byte = zoned_byte count signed leading minus w digits bytes k f tens made inside in
      let here : get_or (take count bytes) k 0 ≡ get_or bytes k 0 = get_or-take count bytes k 0 inside in
      elim (cases_eq k place) [
        | inl at ↦
            let e : eqb k (sign_place signed leading count) ≡ true = eq-eqb _ _ (at ∙ same) in
            let base : cond (eqb k (sign_place signed leading count)) (sign_code signed minus * 16) 240 ≡ sign_code signed minus * 16 = ap (λ b. cond b (sign_code signed minus * 16) 240) e in
            let within : k < length (digit_bytes ds) = omega arith in
            let there : get_or (zoned_form signed leading minus ds) k 0 ≡ sign_code signed minus * 16 + get_or ds k 0 =
            ap (λ m. get_or (set (digit_bytes ds) m (sign_code signed minus * 16 + get_or ds m 0)) k 0) (sym at) ∙ get_or-set_same (digit_bytes ds) k _ 0 within in
            omega (arith, here, there, byte, base, digit)
        | inr other ↦
            let e : eqb k (sign_place signed leading count) ≡ false = ne_eqb _ _ (λ q. other (q ∙ sym same)) in
            let base : cond (eqb k (sign_place signed leading count)) (sign_code signed minus * 16) 240 ≡ 240 = ap (λ b. cond b (sign_code signed minus * 16) 240) e in
            let within : k < length ds = omega arith in
            let there : get_or (zoned_form signed leading minus ds) k 0 ≡ 240 + get_or ds k 0 = get_or-set_other (digit_bytes ds) place k _ 0 other ∙ get_or-map (λ d. 240 + d) ds k 0 0 within in
            omega (arith, here, there, byte, base, digit)
      ]);
}

-- ---- items with a separate sign

-- The fields of a writer of items of so many digits with a separate sign.
pub record WritesSeparate (count : ℕ) (leading : Bool) (w : LaneWriter) : Type 0 where
  pub most : count + 1 ≤ 16
  pub high : AreDigitPicks true (2 * first_byte leading + 1) 2 count w.high.lanes
  pub low : AreDigitPicks false (2 * first_byte leading + 1) 2 count w.low.lanes
  pub base : (minus : Bool) (i : ℕ) → i < 16
      → get_or (base_of w minus) i 0 ≡ cond (eqb i (own_sign_byte leading count)) (sign_byte minus) (lane_between (first_byte leading) (first_byte leading + count) 240 0 i)

sign_small : (minus : Bool) → sign_byte minus < 256
sign_small true = omega arith
sign_small false = omega arith

digit_made : (count : ℕ) (leading minus : Bool) (w : LaneWriter) (digits bytes : List ℕ) (k : ℕ) → WritesSeparate count leading w → AreTens digits → AreMade w minus digits bytes → k < count
    → first_byte leading + k ≢ own_sign_byte leading count → first_byte leading + k < 16 → get_or bytes (first_byte leading + k) 0 ≡ 240 + get_or digits k 0
digit_made count leading minus w digits bytes k f tens made lt other lane =
    let first : ℕ = first_byte leading in
    let i : ℕ = first + k in
    let start : ℕ = 2 * first + 1 in
    let digit_lane : k < 16 = omega arith in
    let top : picked_at digits (get_or w.high.lanes i 0) ≡ 0 = high_is start 2 count i 128 w digits f.high lane (no_pick start 2 count (2 * i) (λ from whole. absurd (omega (arith, leb-true _ _ from)))) in
    let bottom : picked_at digits (get_or w.low.lanes i 0) ≡ get_or digits k 0 =
    low_is start 2 count i k w digits f.low lane (pick_is start 2 count (2 * i + 1) k (omega arith) (omega arith) (omega arith) lt) ∙ lane_is digits k digit_lane in
    let e : eqb i (own_sign_byte leading count) ≡ false = ne_eqb _ _ other in
    let base : get_or (base_of w minus) i 0 ≡ 240 =
    f.base minus i lane ∙ ap (λ b. cond b (sign_byte minus) (lane_between first (first + count) 240 0 i)) e ∙ inside_is first (first + count) 240 0 i (omega arith) (omega arith) in
    omega (arith, made.each i lane, top, bottom, base, tens k digit_lane)

sign_made : (count : ℕ) (leading minus : Bool) (w : LaneWriter) (digits bytes : List ℕ) → WritesSeparate count leading w → AreMade w minus digits bytes → get_or bytes (own_sign_byte leading count) 0 ≡ sign_byte minus
sign_made count true minus w digits bytes f made =
    let lane : 0 < 16 = omega arith in
    let top : picked_at digits (get_or w.high.lanes 0 0) ≡ 0 = high_is 3 2 count 0 128 w digits f.high lane (no_pick 3 2 count 0 (λ from whole. absurd (cc))) in
    let bottom : picked_at digits (get_or w.low.lanes 0 0) ≡ 0 = low_is 3 2 count 0 128 w digits f.low lane (no_pick 3 2 count 1 (λ from whole. absurd (cc))) in
    let base : get_or (base_of w minus) 0 0 ≡ sign_byte minus = f.base minus 0 lane in
    omega (arith, made.each 0 lane, top, bottom, base, sign_small minus)
sign_made count false minus w digits bytes f made =
    let lane : count < 16 = omega (arith, f.most) in
    let top : picked_at digits (get_or w.high.lanes count 0) ≡ 0 = high_is 1 2 count count 128 w digits f.high lane (no_pick 1 2 count (2 * count) (λ from whole. absurd (omega (arith, leb-true _ _ from)))) in
    let bottom : picked_at digits (get_or w.low.lanes count 0) ≡ 0 = low_is 1 2 count count 128 w digits f.low lane (no_pick 1 2 count (2 * count + 1) (λ from whole. omega arith)) in
    let base : get_or (base_of w minus) count 0 ≡ sign_byte minus = f.base minus count lane ∙ ap (λ b. cond b (sign_byte minus) (lane_between 0 (0 + count) 240 0 count)) (eq-eqb count count refl) in
    omega (arith, made.each count lane, top, bottom, base, sign_small minus)

separate_bytes : (leading minus : Bool) (count : ℕ) (w : LaneWriter) (digits bytes : List ℕ) → WritesSeparate count leading w → length digits ≡ 16 → AreTens digits → AreMade w minus digits bytes
    → (k : ℕ) → k < count + 1 → get_or bytes k 0 ≡ get_or (separate_form leading minus (take count digits)) k 0
separate_bytes true minus count w digits bytes f long tens made zero lt = sign_made count true minus w digits bytes f made
separate_bytes true minus count w digits bytes f long tens made (suc k) lt =
    let ds : List ℕ = take count digits in
    let many : length ds ≡ count = length-take-le count digits (omega (arith, f.most)) in
    let inside : k < length ds = omega arith in
    let index : suc k ≡ 1 + k = omega arith in
    ap (λ n. get_or bytes n 0) index ∙ digit_made count true minus w digits bytes k f tens made (omega arith) (λ e. absurd (omega arith)) (omega (arith, f.most))
    ∙ sym (get_or-map (λ d. 240 + d) ds k 0 0 inside ∙ ap (λ d. 240 + d) (get_or-take count digits k 0 (omega arith)))
separate_bytes false minus count w digits bytes f long tens made k lt =
    let ds : List ℕ = take count digits in
    let many : length ds ≡ count = length-take-le count digits (omega (arith, f.most)) in
    let size : length (digit_bytes ds) ≡ count = length-map ds (λ d. 240 + d) ∙ many in
    elim (cases_lt k count) [
      | inl inner ↦
          let inside : k < length ds = omega arith in
          let index : 0 + k ≡ k = omega arith in
          let made_is : get_or bytes (0 + k) 0 ≡ 240 + get_or digits k 0 = digit_made count false minus w digits bytes k f tens made inner (λ e. absurd (omega arith)) (omega (arith, f.most)) in
          sym (ap (λ n. get_or bytes n 0) index) ∙ made_is
          ∙ sym (get_or_append_left (digit_bytes ds) (sign_byte minus ∷ []) 0 k (omega arith) ∙ get_or-map (λ d. 240 + d) ds k 0 0 inside ∙ ap (λ d. 240 + d) (get_or-take count digits k 0 inner))
      | inr last ↦
          let same : k ≡ count = omega arith in
          ap (λ n. get_or bytes n 0) same ∙ sign_made count false minus w digits bytes f made
          ∙ sym (ap (λ n. get_or (digit_bytes ds ++ sign_byte minus ∷ []) n 0) same ∙ get_or_at (digit_bytes ds) (sign_byte minus) [] 0 count size)
    ]

writes_separate : (count : ℕ) (leading : Bool) (w : LaneWriter) → WritesSeparate count leading w → IsWriterOf (separate_form leading) count (count + 1) w
writes_separate count leading w f = record {
  room = omega (arith, f.most);
  fits = f.most;
  writes = λ minus digits bytes long tens made.
      let ds : List ℕ = take count digits in
      let many : length ds ≡ count = length-take-le count digits (omega (arith, f.most)) in
      let whole : length (separate_form leading minus ds) ≡ count + 1 = separate.stored_length count leading minus ds many in
      let front : length (take (count + 1) bytes) ≡ count + 1 = length-take-le (count + 1) bytes (omega (arith, f.most, made.long)) in
      ext_get_or 0 _ _ (front ∙ sym whole) (λ k lt.
      let inside : k < count + 1 = omega arith in
      get_or-take (count + 1) bytes k 0 inside ∙ separate_bytes leading minus count w digits bytes f long tens made k inside);
}

-- ---- packed items

-- The fields of a writer of packed items of so many digits.
pub record WritesPacked (count : ℕ) (signed : Bool) (w : LaneWriter) : Type 0 where
  pub room : count ≤ 16
  pub high : AreDigitPicks true (pad_count count) 1 count w.high.lanes
  pub low : AreDigitPicks false (pad_count count) 1 count w.low.lanes
  pub base : (minus : Bool) (i : ℕ) → i < 16 → get_or (base_of w minus) i 0 ≡ cond (eqb i (count / 2)) (sign_code signed minus) 0

-- a byte of pairs of half bytes
pub byte_of_halves : (hs : List ℕ) (k : ℕ) → 2 * k + 1 < length hs → get_or (bytes_of_halves hs) k 0 ≡ get_or hs (2 * k) 0 * 16 + get_or hs (2 * k + 1) 0
byte_of_halves [] k lt = absurd (omega arith)
byte_of_halves (a ∷ []) k lt = absurd (omega arith)
byte_of_halves (a ∷ b ∷ hs) zero lt = refl
byte_of_halves (a ∷ b ∷ hs) (suc k) lt =
    let even : 2 * suc k ≡ suc (suc (2 * k)) = omega arith in
    let odd : 2 * suc k + 1 ≡ suc (suc (2 * k + 1)) = omega arith in
    byte_of_halves hs k (omega arith)
    ∙ sym (ap (λ m. get_or (a ∷ b ∷ hs) m 0 * 16 + get_or (a ∷ b ∷ hs) (2 * suc k + 1) 0) even ∙ ap (λ m. get_or hs (2 * k) 0 * 16 + get_or (a ∷ b ∷ hs) m 0) odd)

-- a half byte that is a digit or the pad
picked_digit : (count m code : ℕ) (digits : List ℕ) → count ≤ 16 → length digits ≡ 16 → m < pad_count count + count → picked_at digits (digit_pick (pad_count count) 1 count m) ≡ get_or (packed_halves count (take count digits) code) m 0
picked_digit count m code digits room long lt =
    let pad : ℕ = pad_count count in
    let ds : List ℕ = take count digits in
    let many : length ds ≡ count = length-take-le count digits (omega arith) in
    let zeros : length (replicate {A = ℕ} pad 0) ≡ pad = length-replicate pad 0 in
    elim (cases_lt m pad) [
      | inl before ↦
          ap (picked_at digits) (no_pick pad 1 count m (λ from whole. absurd (omega (arith, leb-true _ _ from))))
          ∙ sym (get_or_append_left (replicate pad 0) (ds ++ code ∷ []) 0 m (omega arith) ∙ get_or-replicate pad m 0 0 before)
      | inr from ↦
          let k : ℕ = m - pad in
          let inside : k < count = omega arith in
          ap (picked_at digits) (pick_is pad 1 count m k from (omega arith) (omega arith) inside) ∙ lane_is digits k (omega arith)
          ∙ sym (get_or-append_right (replicate pad 0) (ds ++ code ∷ []) pad m 0 zeros from ∙ get_or_append_left ds (code ∷ []) 0 k (omega arith) ∙ get_or-take count digits k 0 inside)
    ]

-- the half byte of the sign has no digit
picked_sign : (count : ℕ) (digits : List ℕ) → picked_at digits (digit_pick (pad_count count) 1 count (pad_count count + count)) ≡ 0
picked_sign count digits = ap (picked_at digits) (no_pick (pad_count count) 1 count (pad_count count + count) (λ from whole. omega arith))

packed_byte : (count : ℕ) (signed minus : Bool) (w : LaneWriter) (digits bytes : List ℕ) (k : ℕ) → WritesPacked count signed w → length digits ≡ 16 → AreTens digits → AreMade w minus digits bytes → k < count / 2 + 1
    → get_or bytes k 0 ≡ get_or (packed_halves count (take count digits) (sign_code signed minus)) (2 * k) 0 * 16 + get_or (packed_halves count (take count digits) (sign_code signed minus)) (2 * k + 1) 0
packed_byte count signed minus w digits bytes k f long tens made lt =
    let code : ℕ = sign_code signed minus in
    let ds : List ℕ = take count digits in
    let pad : ℕ = pad_count count in
    let hs : List ℕ = packed_halves count ds code in
    let room : count ≤ 16 = f.room in
    let lane : k < 16 = omega arith in
    let high : ℕ = get_or w.high.lanes k 0 in
    let low : ℕ = get_or w.low.lanes k 0 in
    let top : picked_at digits high ≡ get_or hs (2 * k) 0 = high_is pad 1 count k _ w digits f.high lane refl ∙ picked_digit count (2 * k) code digits room long (omega arith) in
    let high_small : picked_at digits high < 10 = picked_small digits high tens in
    let low_small : picked_at digits low < 10 = picked_small digits low tens in
    elim (cases_eq k (count / 2)) [
      | inr other ↦
          let inner : k < count / 2 = omega arith in
          let bottom : picked_at digits low ≡ get_or hs (2 * k + 1) 0 = low_is pad 1 count k _ w digits f.low lane refl ∙ picked_digit count (2 * k + 1) code digits room long (omega arith) in
          let e : eqb k (count / 2) ≡ false = ne_eqb _ _ other in
          let base : get_or (base_of w minus) k 0 ≡ 0 = f.base minus k lane ∙ ap (λ b. cond b code 0) e in
          omega (arith, made.each k lane, top, bottom, base)
      | inl last ↦
          let end : 2 * k + 1 ≡ pad + count = omega arith in
          let bottom : picked_at digits low ≡ 0 = low_is pad 1 count k _ w digits f.low lane refl ∙ ap (λ m. picked_at digits (digit_pick pad 1 count m)) end ∙ picked_sign count digits in
          let e : eqb k (count / 2) ≡ true = eq-eqb _ _ last in
          let base : get_or (base_of w minus) k 0 ≡ code = f.base minus k lane ∙ ap (λ b. cond b code 0) e in
          let many : length ds ≡ count = length-take-le count digits (omega arith) in
          let zeros : length (replicate {A = ℕ} pad 0) ≡ pad = length-replicate pad 0 in
          let behind : pad + count - pad ≡ count = omega arith in
          let sign : get_or hs (2 * k + 1) 0 ≡ code =
          ap (λ m. get_or hs m 0) end ∙ get_or-append_right (replicate pad 0) (ds ++ code ∷ []) pad (pad + count) 0 zeros (omega arith) ∙ ap (λ i. get_or (ds ++ code ∷ []) i 0) behind ∙ get_or_at ds code [] 0 count many in
          omega (arith, made.each k lane, top, bottom, base, sign, code_small signed minus)
    ]

writes_packed : (count : ℕ) (signed : Bool) (w : LaneWriter) → WritesPacked count signed w → IsWriterOf (packed_form signed) count (count / 2 + 1) w
writes_packed count signed w f = record {
  room = f.room;
  fits = omega (arith, f.room);
  writes = λ minus digits bytes long tens made.
      let ds : List ℕ = take count digits in
      let size : ℕ = count / 2 + 1 in
      let code : ℕ = sign_code signed minus in
      let many : length ds ≡ count = length-take-le count digits (omega (arith, f.room)) in
      let hs : List ℕ = packed_halves count ds code in
      let all : length hs ≡ pad_count count + count + 1 = omega (arith, length-append (replicate {A = ℕ} (pad_count count) 0) (ds ++ code ∷ []), length-append ds (code ∷ []), length-replicate {A = ℕ} (pad_count count) 0) in
      let form : packed_form signed minus ds ≡ bytes_of_halves hs = ap (λ n. bytes_of_halves (packed_halves n ds code)) many in
      let whole : length (bytes_of_halves hs) ≡ size = omega (arith, length-joined hs) in
      let front : length (take size bytes) ≡ size = length-take-le size bytes (omega (arith, f.room, made.long)) in
      ext_get_or 0 _ _ (front ∙ sym (ap length form ∙ whole)) (λ k lt.
      let inside : k < size = omega arith in
      get_or-take size bytes k 0 inside ∙ packed_byte count signed minus w digits bytes k f long tens made inside
      ∙ sym (ap (λ xs. get_or xs k 0) form ∙ byte_of_halves hs k (omega arith)));
}

-- ---- the same, where the number of digits is another's

pub zoned_writer : (n count : ℕ) (signed leading : Bool) (w : LaneWriter) → n ≡ count → WritesZoned n signed leading w → IsWriterOf (zoned_form signed leading) count count w
zoned_writer n count signed leading w e f = subst (λ k. IsWriterOf (zoned_form signed leading) k k w) e (writes_zoned n signed leading w f)

pub separate_writer : (n count : ℕ) (leading : Bool) (w : LaneWriter) → n ≡ count → WritesSeparate n leading w → IsWriterOf (separate_form leading) count (count + 1) w
separate_writer n count leading w e f = subst (λ k. IsWriterOf (separate_form leading) k (k + 1) w) e (writes_separate n leading w f)

pub packed_writer : (n count : ℕ) (signed : Bool) (w : LaneWriter) → n ≡ count → WritesPacked n signed w → IsWriterOf (packed_form signed) count (count / 2 + 1) w
packed_writer n count signed w e f = subst (λ k. IsWriterOf (packed_form signed) k (k / 2 + 1) w) e (writes_packed n signed w f)
