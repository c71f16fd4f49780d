-- Items of sixteen digits and more that have a byte for each digit, read.
use Rattle.std.proofs.Common.{◌≡◌, ◌≢◌, ◌↔◌, ℕ, zero, suc, ◌+◌, ◌-◌, ◌/◌, ◌%◌, ◌<◌, ◌≤◌, ◌&&◌, Bool, true, false, not, cond, eqb, ltb, IsTrue, Option, Some, List, [], ◌∷◌, ◌++◌, length, get_or, take, drop, replicate, refl, sym, ap, subst, ◌∙◌, inl, inr, arith, eq-eqb, ne_eqb, lt-ltb, length-append, length-drop, length-take-le, get_or-drop, get_or-take}
use Rattle.std.proofs.lemmas.Bool.{cases_lt, cases_eq, le-leb, lt-leb}
use Rattle.std.proofs.lemmas.List.{ext_get_or, get_or-append_right, get_or_append_left, get_or-replicate, length-replicate, get_or-map, length-map}
use Rattle.cob_decimal.specs.Decimal.{IsDigits, number_of}
use Rattle.cob_codec.specs.Sign.{IsSigned}
use Rattle.cob_codec.specs.Zoned.{low_digit}
use Rattle.cob_codec_lanes.specs.Lanes.{AreBounded, picked_at}
use Rattle.cob_codec_lanes.specs.Windows.{last_bytes, padded_window}
use Rattle.cob_codec_lanes.specs.Signs.{byte_meaning, is_some, number_meaning}
use Rattle.cob_codec_lanes.specs.DigitLanes.{AreDigitBounds, digit_lane, has_digit, lane_byte, least_zone, most_digit}
use Rattle.cob_codec_lanes.specs.DigitItems.{AreDigitsRead, AreSignedDigitBytes, IsDigitReaderOf, digits_from}
use Rattle.cob_codec_lanes.specs.Wide.{AreHeldWide, IsWideRead}
use Rattle.cob_codec_lanes.specs.declared.lanes.Bounds.{Bounds}
use Rattle.cob_codec_lanes.specs.declared.digit_reader.DigitReader.{DigitReader}
use Rattle.cob_codec_lanes.proofs.HalfLemmas.{all_digits, signed_as}
use Rattle.cob_codec_lanes.proofs.WideNumbers.{lane_behind, lane_in_front}
use Rattle.cob_codec_lanes.proofs.WordWriting.{zeros_front}

-- ---- a window's lanes are the bytes before its end

pub window_lane : (bytes window : List ℕ) (i : ℕ) → (length bytes < 16 → window ≡ padded_window bytes) → (16 ≤ length bytes → window ≡ last_bytes 16 bytes) → 16 ≤ length bytes + i
    → get_or window i 0 ≡ get_or bytes (length bytes + i - 16) 0
window_lane bytes window i few many there =
    elim (cases_lt (length bytes) 16) [
      | inl less ↦
          let n : ℕ = 16 - length bytes in
          let zeros : length (replicate {A = ℕ} n 0) ≡ n = length-replicate n 0 in
          let place : i - n ≡ length bytes + i - 16 = omega arith in
          ap (λ w. get_or w i 0) (few less) ∙ get_or-append_right (replicate n 0) bytes n i 0 zeros (omega arith) ∙ ap (λ k. get_or bytes k 0) place
      | inr more ↦
          let place : length bytes - 16 + i ≡ length bytes + i - 16 = omega arith in
          ap (λ w. get_or w i 0) (many more) ∙ get_or-drop (length bytes - 16) bytes i 0 ∙ ap (λ k. get_or bytes k 0) place
    ]

pub window_small : (bytes window : List ℕ) (i : ℕ) → (length bytes < 16 → window ≡ padded_window bytes) → (16 ≤ length bytes → window ≡ last_bytes 16 bytes) → ((k : ℕ) → get_or bytes k 0 < 256)
    → get_or window i 0 < 256
window_small bytes window i few many small =
    elim (cases_lt (length bytes) 16) [
      | inl less ↦
          let n : ℕ = 16 - length bytes in
          let zeros : length (replicate {A = ℕ} n 0) ≡ n = length-replicate n 0 in
          let here : get_or window i 0 ≡ get_or (padded_window bytes) i 0 = ap (λ w. get_or w i 0) (few less) in
          elim (cases_lt i n) [
            | inl before ↦ omega (arith, here, get_or_append_left (replicate n 0) bytes 0 i (omega arith), get_or-replicate {A = ℕ} n i 0 0 before)
            | inr ge ↦ omega (arith, here, get_or-append_right (replicate n 0) bytes n i 0 zeros ge, small (i - n))
          ]
      | inr more ↦ omega (arith, ap (λ w. get_or w i 0) (many more), get_or-drop (length bytes - 16) bytes i 0, small (length bytes - 16 + i))
    ]

pub window_long : (bytes window : List ℕ) → (length bytes < 16 → window ≡ padded_window bytes) → (16 ≤ length bytes → window ≡ last_bytes 16 bytes) → length window ≡ 16
window_long bytes window few many =
    elim (cases_lt (length bytes) 16) [
      | inl less ↦ ap length (few less) ∙ omega (arith, length-append (replicate {A = ℕ} (16 - length bytes) 0) bytes, length-replicate {A = ℕ} (16 - length bytes) 0)
      | inr more ↦ ap length (many more) ∙ omega (arith, length-drop (length bytes - 16) bytes)
    ]

-- Two windows of an item: the last of their thirty-two lanes are its digits' bytes.
pub record AreItemLanes (first count : ℕ) (item front back : List ℕ) : Type 0 where
  pub many : 16 ≤ count
  pub room : count ≤ 32
  pub front_long : length front ≡ 16
  pub back_long : length back ≡ 16
  pub small : (l : ℕ) → get_or (front ++ back) l 0 < 256
  pub lanes : (l : ℕ) → l < 32 → 32 ≤ count + l → get_or (front ++ back) l 0 ≡ get_or item (first + count + l - 32) 0

pub item_lanes : (bytes front back : List ℕ) (size first count end : ℕ) → 16 ≤ count → count ≤ 32 → first + count ≤ size → size ≤ length bytes → end ≡ length bytes - size + first + count
    → ((k : ℕ) → get_or bytes k 0 < 256)
    → (length (take (end - 16) bytes) < 16 → front ≡ padded_window (take (end - 16) bytes)) → (16 ≤ length (take (end - 16) bytes) → front ≡ last_bytes 16 (take (end - 16) bytes))
    → (length (take end bytes) < 16 → back ≡ padded_window (take end bytes)) → (16 ≤ length (take end bytes) → back ≡ last_bytes 16 (take end bytes))
    → AreItemLanes first count (last_bytes size bytes) front back
item_lanes bytes front back size first count end many room within enough is small few more few_behind more_behind =
    let n : ℕ = end - 16 in
    let upper : List ℕ = take n bytes in
    let lower : List ℕ = take end bytes in
    let upper_long : length upper ≡ n = length-take-le n bytes (omega arith) in
    let lower_long : length lower ≡ end = length-take-le end bytes (omega arith) in
    let front_long : length front ≡ 16 = window_long upper front few more in
    let back_long : length back ≡ 16 = window_long lower back few_behind more_behind in
    let taken : (m k : ℕ) → k < m → get_or (take m bytes) k 0 ≡ get_or bytes k 0 = λ m k lt. get_or-take m bytes k 0 lt in
    let taken_small : (m k : ℕ) → get_or (take m bytes) k 0 < 256 = λ m k. small_taken bytes m k small in
    let item : (k : ℕ) → get_or (last_bytes size bytes) k 0 ≡ get_or bytes (length bytes - size + k) 0 = λ k. get_or-drop (length bytes - size) bytes k 0 in
    record {
      many = many;
      room = room;
      front_long = front_long;
      back_long = back_long;
      small = λ l. elim (cases_lt l 16) [
        | inl lt ↦ omega (arith, lane_in_front front back l front_long lt, window_small upper front l few more (taken_small n))
        | inr ge ↦ omega (arith, lane_behind front back l front_long ge, window_small lower back (l - 16) few_behind more_behind (taken_small end))
      ];
      lanes = λ l lt there.
          let place : length bytes - size + (first + count + l - 32) ≡ end + l - 32 = omega arith in
          let goal : get_or bytes (end + l - 32) 0 ≡ get_or (last_bytes size bytes) (first + count + l - 32) 0 = sym (item (first + count + l - 32) ∙ ap (λ k. get_or bytes k 0) place) in
          elim (cases_lt l 16) [
            | inl before ↦
                let at : length upper + l - 16 ≡ end + l - 32 = omega arith in
                lane_in_front front back l front_long before ∙ window_lane upper front l few more (omega arith) ∙ ap (λ k. get_or upper k 0) at ∙ taken n (end + l - 32) (omega arith) ∙ goal
            | inr ge ↦
                let at : length lower + (l - 16) - 16 ≡ end + l - 32 = omega arith in
                lane_behind front back l front_long ge ∙ window_lane lower back (l - 16) few_behind more_behind (omega arith) ∙ ap (λ k. get_or lower k 0) at ∙ taken end (end + l - 32) (omega arith) ∙ goal
          ];
    }
  where
    small_taken : (bytes : List ℕ) (m k : ℕ) → ((k : ℕ) → get_or bytes k 0 < 256) → get_or (take m bytes) k 0 < 256
    small_taken [] zero k small = omega arith
    small_taken [] (suc m) k small = omega arith
    small_taken (b ∷ bytes) zero k small = omega arith
    small_taken (b ∷ bytes) (suc m) zero small = small 0
    small_taken (b ∷ bytes) (suc m) (suc k) small = small_taken bytes m k (λ i. small (suc i))

-- ---- the bounds of all lanes

digit_here : (count l : ℕ) → 32 ≤ count + l → has_digit count l ≡ true
digit_here count l ge = le-leb _ _ ge

none_here : (count l : ℕ) → count + l < 32 → has_digit count l ≡ false
none_here count l lt = lt-leb _ _ lt

zone_wanted : (first count free l : ℕ) → 32 ≤ count + l → first + count + l - 32 ≢ free → least_zone first count free l ≡ 15
zone_wanted first count free l ge other =
    ap (λ b. cond {A = ℕ} (b && not (eqb (lane_byte first count l) free)) 15 0) (digit_here count l ge)
    ∙ ap (λ b. cond {A = ℕ} (not b) 15 0) (ne_eqb _ _ other)

zone_free : (first count free l : ℕ) → first + count + l - 32 ≡ free → least_zone first count free l ≡ 0
zone_free first count free l at = ap (λ b. cond {A = ℕ} (has_digit count l && not b) 15 0) (eq-eqb _ _ at) ∙ go (has_digit count l)
  where
    go : (b : Bool) → cond {A = ℕ} (b && false) 15 0 ≡ 0
    go true = refl
    go false = refl

zone_none : (first count free l : ℕ) → count + l < 32 → least_zone first count free l ≡ 0
zone_none first count free l lt = ap (λ b. cond {A = ℕ} (b && not (eqb (lane_byte first count l) free)) 15 0) (none_here count l lt)

most_here : (count l : ℕ) → 32 ≤ count + l → most_digit count l ≡ 9
most_here count l ge = ap (λ b. cond {A = ℕ} b 9 15) (digit_here count l ge)

most_none : (count l : ℕ) → count + l < 32 → most_digit count l ≡ 15
most_none count l lt = ap (λ b. cond {A = ℕ} b 9 15) (none_here count l lt)

-- nothing and a number
pub bare : (n : ℕ) → 0 + n ≡ n
bare n = omega arith

-- both are within their bounds
abbrev pub AreBothBounded : Bounds → Bounds → List ℕ → List ℕ → Type 0
AreBothBounded a b front back = AreBounded a.least_high a.most_high a.most_low front × AreBounded b.least_high b.most_high b.most_low back

lane_bounds : (first count free l : ℕ) (a b : Bounds) (front back : List ℕ) → length front ≡ 16 → AreDigitBounds first count free 0 a → AreDigitBounds first count free 16 b → AreBothBounded a b front back → l < 32
    → (least_zone first count free l ≤ get_or (front ++ back) l 0 / 16) × (get_or (front ++ back) l 0 % 16 ≤ most_digit count l)
lane_bounds first count free l a b front back long x y within lt =
    elim (cases_lt l 16) [
      | inl before ↦
          let here : get_or (front ++ back) l 0 ≡ get_or front l 0 = lane_in_front front back l long before in
          let least : get_or a.least_high l 0 ≡ least_zone first count free l = x.least l before ∙ ap (least_zone first count free) (bare l) in
          let most : get_or a.most_low l 0 ≡ most_digit count l = x.low l before ∙ ap (most_digit count) (bare l) in
          (omega (arith, here, least, within.0.least l before), omega (arith, here, most, within.0.low l before))
      | inr ge ↦
          let i : ℕ = l - 16 in
          let lane : i < 16 = omega arith in
          let here : get_or (front ++ back) l 0 ≡ get_or back i 0 = lane_behind front back l long ge in
          let there : 16 + i ≡ l = omega arith in
          let least : get_or b.least_high i 0 ≡ least_zone first count free l = y.least i lane ∙ ap (least_zone first count free) there in
          let most : get_or b.most_low i 0 ≡ most_digit count l = y.low i lane ∙ ap (most_digit count) there in
          (omega (arith, here, least, within.1.least i lane), omega (arith, here, most, within.1.low i lane))
    ]

bounds_of_lanes : (first count free : ℕ) (a b : Bounds) (front back : List ℕ) → length front ≡ 16 → AreDigitBounds first count free 0 a → AreDigitBounds first count free 16 b → ((l : ℕ) → get_or (front ++ back) l 0 < 256)
    → ((l : ℕ) → l < 32 → least_zone first count free l ≤ get_or (front ++ back) l 0 / 16) → ((l : ℕ) → l < 32 → get_or (front ++ back) l 0 % 16 ≤ most_digit count l) → AreBothBounded a b front back
bounds_of_lanes first count free a b front back long x y small least low = (
  record {
    least = λ i lt.
        let bound : get_or a.least_high i 0 ≡ least_zone first count free i = x.least i lt ∙ ap (least_zone first count free) (bare i) in
        omega (arith, lane_in_front front back i long lt, bound, least i (omega arith));
    most = λ i lt. omega (arith, lane_in_front front back i long lt, x.most i lt, small i);
    low = λ i lt.
        let bound : get_or a.most_low i 0 ≡ most_digit count i = x.low i lt ∙ ap (most_digit count) (bare i) in
        omega (arith, lane_in_front front back i long lt, bound, low i (omega arith));
  },
  record {
    least = λ i lt. omega (arith, behind i, y.least i lt, least (16 + i) (omega arith));
    most = λ i lt. omega (arith, behind i, y.most i lt, small (16 + i));
    low = λ i lt. omega (arith, behind i, y.low i lt, low (16 + i) (omega arith));
  },
)
  where
    behind : (i : ℕ) → get_or (front ++ back) (16 + i) 0 ≡ get_or back i 0
    behind i = lane_behind front back (16 + i) long (omega arith) ∙ ap (λ k. get_or back k 0) (omega arith)

-- ---- bytes that are digits and a sign

pub bytes_from_lanes : (r : DigitReader) (item front back : List ℕ) (minus : Bool) → AreDigitBounds r.digits.first r.digits.count r.free 0 r.front → AreDigitBounds r.digits.first r.digits.count r.free 16 r.back
    → AreItemLanes r.digits.first r.digits.count item front back → AreBothBounded r.front r.back front back
    → byte_meaning r.sign r.signed (get_or item r.digits.place 0) ≡ Some minus → AreSignedDigitBytes r item minus
bytes_from_lanes r item front back minus x y lanes within sign =
    let first : ℕ = r.digits.first in
    let count : ℕ = r.digits.count in
    let at : (k : ℕ) → k < count → get_or (front ++ back) (32 - count + k) 0 ≡ get_or item (first + k) 0 = λ k lt.
    let place : first + count + (32 - count + k) - 32 ≡ first + k = omega (arith, lanes.room) in
    lanes.lanes (32 - count + k) (omega (arith, lanes.room)) (omega (arith, lanes.room)) ∙ ap (λ n. get_or item n 0) place in
    record {
      low = λ k lt.
          let l : ℕ = 32 - count + k in
          let b = lane_bounds first count r.free l r.front r.back front back lanes.front_long x y within (omega (arith, lanes.room)) in
          omega (arith, b.1, most_here count l (omega (arith, lanes.room)), at k lt);
      zones = λ k lt other.
          let l : ℕ = 32 - count + k in
          let b = lane_bounds first count r.free l r.front r.back front back lanes.front_long x y within (omega (arith, lanes.room)) in
          let place : first + count + l - 32 ≡ first + k = omega (arith, lanes.room) in
          let zone : least_zone first count r.free l ≡ 15 = zone_wanted first count r.free l (omega (arith, lanes.room)) (λ e. other (sym place ∙ e)) in
          omega (arith, b.0, zone, at k lt, lanes.small l);
      sign = sign;
    }

pub lanes_from_bytes : (r : DigitReader) (item front back : List ℕ) (minus : Bool) → AreDigitBounds r.digits.first r.digits.count r.free 0 r.front → AreDigitBounds r.digits.first r.digits.count r.free 16 r.back
    → AreItemLanes r.digits.first r.digits.count item front back → AreSignedDigitBytes r item minus → AreBothBounded r.front r.back front back
lanes_from_bytes r item front back minus x y lanes d =
    let first : ℕ = r.digits.first in
    let count : ℕ = r.digits.count in
    let at : (l : ℕ) → l < 32 → 32 ≤ count + l → get_or (front ++ back) l 0 ≡ get_or item (first + (count + l - 32)) 0 = λ l lt ge.
    let place : first + count + l - 32 ≡ first + (count + l - 32) = omega arith in
    lanes.lanes l lt ge ∙ ap (λ n. get_or item n 0) place in
    bounds_of_lanes first count r.free r.front r.back front back lanes.front_long x y lanes.small
    (λ l lt. elim (cases_lt (count + l) 32) [
      | inl none ↦ omega (arith, zone_none first count r.free l none)
      | inr ge ↦ elim (cases_eq (first + count + l - 32) r.free) [
        | inl free ↦ omega (arith, zone_free first count r.free l free)
        | inr other ↦
            let place : first + count + l - 32 ≡ first + (count + l - 32) = omega arith in
            omega (arith, zone_wanted first count r.free l ge other, at l lt ge, d.zones (count + l - 32) (omega arith) (λ e. other (place ∙ e)))
      ]
    ])
    (λ l lt. elim (cases_lt (count + l) 32) [
      | inl none ↦ omega (arith, most_none count l none)
      | inr ge ↦ omega (arith, most_here count l ge, at l lt ge, d.low (count + l - 32) (omega arith))
    ])

-- ---- the digits in two vectors

front_digit : (count : ℕ) (lower : List ℕ) (i p : ℕ) → i < 16 → p ≡ digit_lane count i → picked_at lower p ≡ cond {A = ℕ} (has_digit count i) (get_or lower i 0) 0
front_digit count lower i p lt is = ap (picked_at lower) is ∙ go (has_digit count i)
  where
    go : (b : Bool) → picked_at lower (cond {A = ℕ} b i 128) ≡ cond {A = ℕ} b (get_or lower i 0) 0
    go true = ap (λ b. cond {A = ℕ} b (get_or lower i 0) 0) (lt-ltb _ _ lt)
    go false = refl

pub digits_long : (first count : ℕ) (item : List ℕ) → first + count ≤ length item → length (digits_from first count item) ≡ count
digits_long first count item within = length-map (take count (drop first item)) low_digit ∙ length-take-le count (drop first item) (omega (arith, length-drop first item))

pub digit_from_is : (first count : ℕ) (item : List ℕ) (k : ℕ) → first + count ≤ length item → k < count → get_or (digits_from first count item) k 0 ≡ get_or item (first + k) 0 % 16
digit_from_is first count item k within lt =
    let part : List ℕ = take count (drop first item) in
    let long : length part ≡ count = length-take-le count (drop first item) (omega (arith, length-drop first item)) in
    let inside : k < length part = omega arith in
    get_or-map low_digit part k 0 0 inside ∙ ap (λ b. b % 16) (get_or-take count (drop first item) k 0 lt ∙ get_or-drop first item k 0)

pub held_digits : (first count : ℕ) (item front back lower picks a b : List ℕ) → AreItemLanes first count item front back → first + count ≤ length item
    → ((l : ℕ) → l < 32 → get_or (front ++ back) l 0 % 16 ≤ most_digit count l)
    → ((i : ℕ) → i < 16 → get_or lower i 0 ≡ get_or front i 0 % 16) → ((i : ℕ) → i < 16 → get_or picks i 0 ≡ digit_lane count i)
    → length a ≡ 16 → ((i : ℕ) → i < 16 → get_or a i 0 ≡ picked_at lower (get_or picks i 0)) → length b ≡ 16 → ((i : ℕ) → i < 16 → get_or b i 0 ≡ get_or back i 0 % 16)
    → AreHeldWide (number_of (digits_from first count item)) a b
held_digits first count item front back lower picks a b lanes within low lows at a_long a_is b_long b_is =
    let ds : List ℕ = digits_from first count item in
    let v : List ℕ = front ++ back in
    let many : length ds ≡ count = digits_long first count item within in
    let all : length (a ++ b) ≡ 32 = omega (arith, length-append a b) in
    let none : (l : ℕ) → count + l < 32 → get_or (a ++ b) l 0 ≡ 0 = λ l before.
    let lane : l < 16 = omega (arith, lanes.many) in
    lane_in_front a b l a_long lane ∙ a_is l lane ∙ front_digit count lower l (get_or picks l 0) lane (at l lane) ∙ ap (λ t. cond {A = ℕ} t (get_or lower l 0) 0) (none_here count l before) in
    let some : (l : ℕ) → l < 32 → 32 ≤ count + l → get_or (a ++ b) l 0 ≡ get_or v l 0 % 16 = λ l lt ge. elim (cases_lt l 16) [
      | inl lane ↦
          lane_in_front a b l a_long lane ∙ a_is l lane ∙ front_digit count lower l (get_or picks l 0) lane (at l lane) ∙ ap (λ t. cond {A = ℕ} t (get_or lower l 0) 0) (digit_here count l ge)
          ∙ lows l lane ∙ sym (ap (λ x. x % 16) (lane_in_front front back l lanes.front_long lane))
      | inr behind ↦
          lane_behind a b l a_long behind ∙ b_is (l - 16) (omega arith) ∙ sym (ap (λ x. x % 16) (lane_behind front back l lanes.front_long behind))
    ] in
    let zeros : length (replicate {A = ℕ} (32 - count) 0) ≡ 32 - count = length-replicate (32 - count) 0 in
    let is : a ++ b ≡ replicate (32 - count) 0 ++ ds = ext_get_or 0 (a ++ b) (replicate (32 - count) 0 ++ ds) (omega (arith, length-append (replicate {A = ℕ} (32 - count) 0) ds, lanes.room)) (λ l lt. elim (cases_lt (count + l) 32) [
      | inl before ↦
          none l before ∙ sym (get_or_append_left (replicate (32 - count) 0) ds 0 l (omega arith) ∙ get_or-replicate {A = ℕ} (32 - count) l 0 0 (omega arith))
      | inr ge ↦
          let k : ℕ = l - (32 - count) in
          let inside : k < count = omega (arith, lanes.room) in
          let place : first + count + l - 32 ≡ first + k = omega (arith, lanes.room) in
          some l (omega arith) ge ∙ ap (λ x. x % 16) (lanes.lanes l (omega arith) ge ∙ ap (λ n. get_or item n 0) place)
          ∙ sym (get_or-append_right (replicate (32 - count) 0) ds (32 - count) l 0 zeros (omega (arith, lanes.room)) ∙ digit_from_is first count item k within inside)
    ]) in
    record {
      first = a_long;
      last = b_long;
      valid = all_digits (a ++ b) (λ l lt. elim (cases_lt (count + l) 32) [
        | inl before ↦ omega (arith, none l before)
        | inr ge ↦ omega (arith, some l (omega arith) ge, low l (omega arith), most_here count l ge)
      ]);
      value = ap number_of is ∙ zeros_front (32 - count) ds;
    }

pub lows_of_bounds : (r : DigitReader) (front back : List ℕ) → length front ≡ 16 → AreDigitBounds r.digits.first r.digits.count r.free 0 r.front → AreDigitBounds r.digits.first r.digits.count r.free 16 r.back
    → AreBothBounded r.front r.back front back → (l : ℕ) → l < 32 → get_or (front ++ back) l 0 % 16 ≤ most_digit r.digits.count l
lows_of_bounds r front back long x y within l lt = (lane_bounds r.digits.first r.digits.count r.free l r.front r.back front back long x y within lt).1

-- ---- what was read

said_so : (o : Option Bool) (minus : Bool) → o ≡ Some minus → is_some o ≡ true
said_so o minus e = ap is_some e

pub read_item : (r : DigitReader) (bytes front back lower a b : List ℕ) (signed is_number minus : Bool) (m : ℕ) → r.digits.first + r.digits.count ≤ r.digits.size → r.digits.size ≤ length bytes
    → AreDigitBounds r.digits.first r.digits.count r.free 0 r.front → AreDigitBounds r.digits.first r.digits.count r.free 16 r.back → ((i : ℕ) → i < 16 → get_or r.picks.lanes i 0 ≡ digit_lane r.digits.count i)
    → AreItemLanes r.digits.first r.digits.count (last_bytes r.digits.size bytes) front back
    → IsTrue is_number ↔ (IsTrue signed × AreBounded r.front.least_high r.front.most_high r.front.most_low front × AreBounded r.back.least_high r.back.most_high r.back.most_low back)
    → signed ≡ is_some (number_meaning m) → (is_some (number_meaning m) ≡ true → number_meaning m ≡ Some minus)
    → number_meaning m ≡ byte_meaning r.sign r.signed (get_or bytes (length bytes - r.digits.size + r.digits.place) 0)
    → ((i : ℕ) → i < 16 → get_or lower i 0 ≡ get_or front i 0 % 16)
    → length a ≡ 16 → ((i : ℕ) → i < 16 → get_or a i 0 ≡ picked_at lower (get_or r.picks.lanes i 0)) → length b ≡ 16 → ((i : ℕ) → i < 16 → get_or b i 0 ≡ get_or back i 0 % 16)
    → AreDigitsRead r bytes is_number minus a b
read_item r bytes front back lower a b signed is_number minus m within enough x y picks lanes number signed_is minus_is said lows a_long a_is b_long b_is =
    let item : List ℕ = last_bytes r.digits.size bytes in
    let long : length item ≡ r.digits.size = omega (arith, length-drop (length bytes - r.digits.size) bytes) in
    let byte : get_or item r.digits.place 0 ≡ get_or bytes (length bytes - r.digits.size + r.digits.place) 0 = get_or-drop (length bytes - r.digits.size) bytes r.digits.place 0 in
    let here : byte_meaning r.sign r.signed (get_or item r.digits.place 0) ≡ number_meaning m = ap (byte_meaning r.sign r.signed) byte ∙ sym said in
    record {
      number = λ e.
          let all = number.0 e in
          bytes_from_lanes r item front back minus x y lanes (all.1, all.2) (here ∙ minus_is (sym signed_is ∙ all.0));
      nothing = λ e other d.
          let within_bounds = lanes_from_bytes r item front back other x y lanes d in
          let told : signed ≡ true = signed_is ∙ said_so (number_meaning m) other (sym here ∙ d.sign) in
          let is : is_number ≡ true = number.1 (told, within_bounds.0, within_bounds.1) in
          absurd (cc);
      held = λ e.
          let all = number.0 e in
          held_digits r.digits.first r.digits.count item front back lower r.picks.lanes a b lanes (omega arith) (lows_of_bounds r front back lanes.front_long x y (all.1, all.2)) lows picks a_long a_is b_long b_is;
    }

-- ---- what was read is a number of the item, or that it is none

valid_digits : (r : DigitReader) (item : List ℕ) (minus : Bool) → r.digits.first + r.digits.count ≤ length item → AreSignedDigitBytes r item minus → IsDigits (digits_from r.digits.first r.digits.count item)
valid_digits r item minus within d =
    let many : length (digits_from r.digits.first r.digits.count item) ≡ r.digits.count = digits_long r.digits.first r.digits.count item within in
    all_digits (digits_from r.digits.first r.digits.count item) (λ k lt.
    let inside : k < r.digits.count = omega arith in
    omega (arith, digit_from_is r.digits.first r.digits.count item k within inside, d.low k inside))

pub digits_read : (represents : List ℕ → Bool → List ℕ → Type 0) (size : ℕ) (r : DigitReader) (bytes front back : List ℕ) (is_number minus : Bool) → IsDigitReaderOf represents size r → size ≤ length bytes
    → r.digits.first + r.digits.count ≤ r.digits.size → AreDigitsRead r bytes is_number minus front back → IsWideRead (represents (last_bytes size bytes)) is_number minus front back
digits_read represents size r bytes front back is_number minus is enough within read =
    let item : List ℕ = last_bytes size bytes in
    let same : last_bytes r.digits.size bytes ≡ item = ap (λ n. last_bytes n bytes) is.bytes in
    let long : length item ≡ size = omega (arith, length-drop (length bytes - size) bytes) in
    let inside : r.digits.first + r.digits.count ≤ length item = omega (arith, is.bytes) in
    record {
      number = λ e.
          let d : AreSignedDigitBytes r item minus = subst (λ xs. AreSignedDigitBytes r xs minus) same (read.number e) in
          let ds : List ℕ = digits_from r.digits.first r.digits.count item in
          let valid : IsDigits ds = valid_digits r item minus inside d in
          let signed : IsSigned minus ds (minus && ltb 0 (number_of ds)) = signed_as minus (number_of ds) in
          record {
            negative = minus && ltb 0 (number_of ds);
            digits = ds;
            represented = is.reads item minus (minus && ltb 0 (number_of ds)) long d valid signed;
            valid = valid;
            sign = signed;
            held = subst (λ xs. AreHeldWide (number_of (digits_from r.digits.first r.digits.count xs)) front back) same (read.held e);
          };
      nothing = λ e negative digits there.
          let passed = is.passes item negative digits long there in
          read.nothing e passed.0 (subst (λ xs. AreSignedDigitBytes r xs passed.0) (sym same) passed.1);
    }
