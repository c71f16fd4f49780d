-- Half bytes of windows, and the digits that stand in them.
use Rattle.std.proofs.Common.{◌≡◌, ℕ, zero, suc, ◌+◌, ◌-◌, ◌*◌, ◌/◌, ◌%◌, ◌<◌, ◌≤◌, ◌↔◌, ◌&&◌, ℤ, pos, negsuc, ◌-ℤ◌, Bool, true, false, IsTrue, cond, ltb, leb, eqb, List, [], ◌∷◌, length, get_or, refl, sym, ap, ◌∙◌, inl, inr, arith, ltb-true, lt-ltb, le-ltb, eq-eqb, ne_eqb, leb-true, leb-false, length-drop, get_or-drop}
use Rattle.std.proofs.lemmas.Bool.{cases_lt, cases_eq}
use Rattle.cob_decimal.specs.Decimal.{IsDigits, number_of, digit_at}
use Rattle.cob_decimal.proofs.DecimalLemmas.{digit_in, digit_beyond}
use Rattle.cob_codec.specs.Packed.{halves}
use Rattle.cob_codec_lanes.specs.Lanes.{halves_at}
use Rattle.cob_codec_lanes.specs.Windows.{last_bytes, high_lane, low_lane, half_lane, power_pick, lane_between, ArePowerPicks}
use Rattle.cob_codec_lanes.specs.Readers.{AreTaken, AreWanted}
use Rattle.cob_codec_lanes.specs.declared.reader.LaneReader.{LaneReader}

pub all_digits : (ds : List ℕ) → ((k : ℕ) → k < length ds → get_or ds k 0 < 10) → IsDigits ds
all_digits [] h = tt
all_digits (d ∷ ds) h = (h 0 (omega arith), all_digits ds (λ k lt. h (suc k) (omega arith)))

-- a minus stays where the number isn't zero
pub signed_as : (minus : Bool) (n : ℕ) → IsTrue (minus && ltb 0 n) ↔ (IsTrue minus × (0 < n))
signed_as false n = (λ h. absurd cc, λ h. h.0)
signed_as true n = (λ h. (refl, ltb-true _ _ h), λ h. lt-ltb _ _ h.1)

-- ---- one number in some lanes, and another elsewhere

pub inside_is : (from to inside outside i : ℕ) → from ≤ i → i < to → lane_between from to inside outside i ≡ inside
inside_is from to inside outside i ge lt =
    let a : leb from i ≡ true = leb_of from i ge in
    let b : ltb i to ≡ true = lt-ltb _ _ lt in
    ap (λ x. cond (x && ltb i to) inside outside) a ∙ ap (λ x. cond (true && x) inside outside) b
  where
    leb_of : (a b : ℕ) → a ≤ b → leb a b ≡ true
    leb_of a b le = go (leb a b) refl
      where
        go : (t : Bool) → leb a b ≡ t → t ≡ true
        go true e = refl
        go false e = absurd (omega (arith, leb-false _ _ e))

pub before_is : (from to inside outside i : ℕ) → i < from → lane_between from to inside outside i ≡ outside
before_is from to inside outside i lt = go (leb from i) refl
  where
    go : (t : Bool) → leb from i ≡ t → cond (t && ltb i to) inside outside ≡ outside
    go true e = absurd (omega (arith, leb-true _ _ e))
    go false e = refl

pub behind_is : (from to inside outside i : ℕ) → to ≤ i → lane_between from to inside outside i ≡ outside
behind_is from to inside outside i ge = go (leb from i) (ltb i to) refl
  where
    go : (t s : Bool) → ltb i to ≡ s → cond (t && s) inside outside ≡ outside
    go true true e = absurd (omega (arith, ltb-true _ _ e))
    go true false e = refl
    go false s e = refl

-- one lane apart, and the others
pub lane_from : (i p q a b x y : ℕ) → p ≡ q → a ≡ b → x ≡ y → cond (eqb i p) a x ≡ cond (eqb i q) b y
lane_from i p q a b x y place number others =
    ap (λ k. cond (eqb i k) a x) place ∙ ap (λ n. cond (eqb i q) n x) number ∙ ap (λ n. cond (eqb i q) b n) others

-- ---- bytes at the end of a window

pub last_byte : (size : ℕ) (v : List ℕ) (k : ℕ) → length v ≡ 16 → get_or (last_bytes size v) k 0 ≡ get_or v (16 - size + k) 0
last_byte size v k long = get_or-drop (length v - size) v k 0 ∙ ap (λ n. get_or v (n - size + k) 0) long

pub last_length : (size : ℕ) (v : List ℕ) → length v ≡ 16 → size ≤ 16 → length (last_bytes size v) ≡ size
last_length size v long fits = omega (arith, length-drop (length v - size) v)

-- ---- half bytes by their number

pub half_even : (bs : List ℕ) (k : ℕ) → get_or (halves bs) (2 * k) 0 ≡ get_or bs k 0 / 16
half_even [] k = refl
half_even (b ∷ bs) zero = refl
half_even (b ∷ bs) (suc k) =
    let e : 2 * suc k ≡ suc (suc (2 * k)) = omega arith in
    ap (λ m. get_or (halves (b ∷ bs)) m 0) e ∙ half_even bs k

pub half_odd : (bs : List ℕ) (k : ℕ) → get_or (halves bs) (2 * k + 1) 0 ≡ get_or bs k 0 % 16
half_odd [] k = refl
half_odd (b ∷ bs) zero = refl
half_odd (b ∷ bs) (suc k) =
    let e : 2 * suc k + 1 ≡ suc (suc (2 * k + 1)) = omega arith in
    ap (λ m. get_or (halves (b ∷ bs)) m 0) e ∙ half_odd bs k

pub high_half : (v : List ℕ) (m : ℕ) → m % 2 ≡ 0 → get_or (halves v) m 0 ≡ get_or v (m / 2) 0 / 16
high_half v m even =
    let e : m ≡ 2 * (m / 2) = omega arith in
    ap (λ k. get_or (halves v) k 0) e ∙ half_even v (m / 2)

pub low_half : (v : List ℕ) (m : ℕ) → m % 2 ≡ 1 → get_or (halves v) m 0 ≡ get_or v (m / 2) 0 % 16
low_half v m odd =
    let e : m ≡ 2 * (m / 2) + 1 = omega arith in
    ap (λ k. get_or (halves v) k 0) e ∙ half_odd v (m / 2)

-- a half byte of an item is one of the window
pub last_half : (size : ℕ) (v : List ℕ) (m : ℕ) → length v ≡ 16 → size ≤ 16 → get_or (halves (last_bytes size v)) m 0 ≡ get_or (halves v) (32 - 2 * size + m) 0
last_half size v m long fits =
    let item : List ℕ = last_bytes size v in
    elim (cases_eq (m % 2) 0) [
      | inl even ↦
          let there : 32 - 2 * size + m ≡ 2 * (16 - size + m / 2) = omega arith in
          high_half item m even ∙ ap (λ b. b / 16) (last_byte size v (m / 2) long) ∙ sym (ap (λ k. get_or (halves v) k 0) there ∙ half_even v (16 - size + m / 2))
      | inr odd ↦
          let one : m % 2 ≡ 1 = omega arith in
          let there : 32 - 2 * size + m ≡ 2 * (16 - size + m / 2) + 1 = omega arith in
          low_half item m one ∙ ap (λ b. b % 16) (last_byte size v (m / 2) long) ∙ sym (ap (λ k. get_or (halves v) k 0) there ∙ half_odd v (16 - size + m / 2))
    ]

-- ---- half bytes that are taken

pub low_at : (v : List ℕ) (p : ℕ) → p < 16 → halves_at v 128 p ≡ get_or v p 0 % 16
low_at v p lt = ap (λ b. 0 + cond b (get_or v p 0 % 16) 0) (lt-ltb _ _ lt) ∙ plain (get_or v p 0 % 16)
  where
    plain : (n : ℕ) → 0 + n ≡ n
    plain n = omega arith

pub high_at : (v : List ℕ) (p : ℕ) → p < 16 → halves_at v p 128 ≡ get_or v p 0 / 16
high_at v p lt = ap (λ b. cond b (get_or v p 0 / 16) 0 + 0) (lt-ltb _ _ lt) ∙ plain (get_or v p 0 / 16)
  where
    plain : (n : ℕ) → n + 0 ≡ n
    plain n = omega arith

pub picked_half : (v : List ℕ) (m : ℕ) → m < 32 → halves_at v (high_lane m) (low_lane m) ≡ get_or (halves v) m 0
picked_half v m lt =
    let place : m / 2 < 16 = omega arith in
    elim (cases_eq (m % 2) 0) [
      | inl even ↦
          let e : eqb (m % 2) 0 ≡ true = eq-eqb _ _ even in
          ap (λ b. halves_at v (cond b (m / 2) 128) (cond b 128 (m / 2))) e ∙ high_at v (m / 2) place ∙ sym (high_half v m even)
      | inr odd ↦
          let e : eqb (m % 2) 0 ≡ false = ne_eqb _ _ odd in
          ap (λ b. halves_at v (cond b (m / 2) 128) (cond b 128 (m / 2))) e ∙ low_at v (m / 2) place ∙ sym (low_half v m (omega arith))
    ]

pub picked_power : (start apart count : ℕ) (v ds : List ℕ) (z : ℤ) → ((k : ℕ) → k < count → start + apart * k < 32) → length ds ≡ count → IsDigits ds
    → ((k : ℕ) → k < count → get_or ds k 0 ≡ get_or (halves v) (start + apart * k) 0)
    → halves_at v (power_pick true start apart count z) (power_pick false start apart count z) ≡ digit_at (number_of ds) z
picked_power start apart count v ds (negsuc q) within long valid each = refl
picked_power start apart count v ds (pos q) within long valid each =
    let i : ℕ = count - 1 - q in
    let m : ℕ = start + apart * i in
    elim (cases_lt q count) [
      | inl lt ↦
          let inside : q < length ds = omega arith in
          let here : i < count = omega arith in
          let e : ltb q count ≡ true = lt-ltb _ _ lt in
          let back : get_or ds i 0 ≡ get_or ds (length ds - 1 - q) 0 = ap (λ k. get_or ds k 0) (omega arith) in
          ap (λ b. halves_at v (cond b (half_lane true m) 128) (cond b (half_lane false m) 128)) e
          ∙ picked_half v m (within i here) ∙ sym (each i here) ∙ back ∙ sym (digit_in ds q valid inside)
      | inr ge ↦
          let e : ltb q count ≡ false = le-ltb _ _ ge in
          let beyond : length ds ≤ q = omega arith in
          ap (λ b. halves_at v (cond b (half_lane true m) 128) (cond b (half_lane false m) 128)) e ∙ sym (digit_beyond ds q valid beyond)
    ]

-- the digits that a reader takes are those that are wanted
pub wanted_digits : (start apart count wanted : ℕ) (shift : ℤ) (r : LaneReader) (v ds kept : List ℕ) → wanted ≤ 16 → ((k : ℕ) → k < count → start + apart * k < 32) → length ds ≡ count → IsDigits ds
    → ((k : ℕ) → k < count → get_or ds k 0 ≡ get_or (halves v) (start + apart * k) 0)
    → ArePowerPicks true start apart count wanted shift r.high.lanes → ArePowerPicks false start apart count wanted shift r.low.lanes
    → AreTaken r v kept → AreWanted wanted shift (number_of ds) kept
wanted_digits start apart count wanted shift r v ds kept room within long valid each high low taken = record {
  long = taken.long;
  each = λ j lt.
      let inside : j < 16 = omega arith in
      let z : ℤ = pos (wanted - 1 - j) -ℤ shift in
      taken.each j inside ∙ ap (λ p. halves_at v p (get_or r.low.lanes j 0)) (high.each j lt) ∙ ap (halves_at v (power_pick true start apart count z)) (low.each j lt)
      ∙ picked_power start apart count v ds z within long valid each;
  rest = λ j ge lt. taken.each j lt ∙ ap (λ p. halves_at v p (get_or r.low.lanes j 0)) (high.rest j ge lt) ∙ ap (halves_at v 128) (low.rest j ge lt);
}
