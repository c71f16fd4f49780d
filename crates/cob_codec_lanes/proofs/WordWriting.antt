-- Digits in lanes written as binary items.
use Rattle.std.proofs.Common.{◌≡◌, ℕ, zero, suc, ◌+◌, ◌-◌, ◌*◌, ◌/◌, ◌%◌, ◌^◌, ◌<◌, ◌≤◌, ◌&&◌, Bool, true, false, IsTrue, cond, ltb, leb, eqb, ltb-true, lt-ltb, eq-eqb, List, ◌++◌, length, take, get_or, replicate, refl, sym, ap, subst, ◌∙◌, inl, inr, arith, length-append, length-take-le, get_or-take}
use Rattle.std.proofs.lemmas.Bool.{cases_lt, le-leb, lt-leb}
use Rattle.std.proofs.lemmas.List.{ext_get_or, get_or-append_right, get_or_append_left, get_or-replicate, length-replicate, take_all}
use Rattle.cob_decimal.specs.Decimal.{IsDigits, number_of}
use Rattle.cob_decimal.proofs.DecimalLemmas.{number_of-lt}
use Rattle.byteorder.specs.Endian.{big_bytes}
use Rattle.cob_codec.specs.Binary.{binary_form}
use Rattle.cob_codec.proofs.BinaryLaws.{fits_half, width}
use Rattle.cob_codec_lanes.specs.Lanes.{AreTens, picked_at}
use Rattle.cob_codec_lanes.specs.Windows.{AreDigitPicks, digit_pick}
use Rattle.cob_codec_lanes.specs.Words.{IsBinaryWriterOf, turned, width_bytes}
use Rattle.cob_codec_lanes.specs.declared.width.Width.{Width}
use Rattle.cob_codec_lanes.specs.declared.width.Width.TheVariants.{Two, Four, Eight}
use Rattle.cob_codec_lanes.specs.declared.binary.BinaryWriter.{BinaryWriter}
use Rattle.cob_codec_lanes.proofs.HalfLemmas.{all_digits}
use Rattle.cob_codec_lanes.proofs.WordLemmas.{one_more}

-- ---- the number of sixteen digits

four_digits : (xs : List ℕ) (i : ℕ) → i + 3 < length xs
    → number_of (take (i + 4) xs) ≡ number_of (take i xs) * 10000 + (get_or xs i 0 * 1000 + get_or xs (i + 1) 0 * 100 + get_or xs (i + 2) 0 * 10 + get_or xs (i + 3) 0)
four_digits xs i lt =
    let one : number_of (take (i + 1) xs) ≡ number_of (take i xs) * 10 + get_or xs i 0 = one_more xs i (omega arith) in
    let two : number_of (take (i + 1 + 1) xs) ≡ number_of (take (i + 1) xs) * 10 + get_or xs (i + 1) 0 = one_more xs (i + 1) (omega arith) in
    let three : number_of (take (i + 2 + 1) xs) ≡ number_of (take (i + 2) xs) * 10 + get_or xs (i + 2) 0 = one_more xs (i + 2) (omega arith) in
    let four : number_of (take (i + 3 + 1) xs) ≡ number_of (take (i + 3) xs) * 10 + get_or xs (i + 3) 0 = one_more xs (i + 3) (omega arith) in
    let p : number_of (take (i + 1 + 1) xs) ≡ number_of (take (i + 2) xs) = ap (λ k. number_of (take k xs)) (omega arith) in
    let q : number_of (take (i + 2 + 1) xs) ≡ number_of (take (i + 3) xs) = ap (λ k. number_of (take k xs)) (omega arith) in
    let r : number_of (take (i + 3 + 1) xs) ≡ number_of (take (i + 4) xs) = ap (λ k. number_of (take k xs)) (omega arith) in
    omega arith

-- what is made of the pairs of digits
pub fours_number : (v fours : List ℕ) (a b c d : ℕ) → length v ≡ 16
    → ((i : ℕ) → i < 4 → get_or fours i 0 ≡ get_or v (4 * i) 0 * 1000 + get_or v (4 * i + 1) 0 * 100 + get_or v (4 * i + 2) 0 * 10 + get_or v (4 * i + 3) 0)
    → a ≡ get_or fours 0 0 → b ≡ get_or fours 1 0 → c ≡ get_or fours 2 0 → d ≡ get_or fours 3 0 → (a * 10000 + b) * 100000000 + (c * 10000 + d) ≡ number_of v
fours_number v fours a b c d long each ea eb ec ed =
    let p0 : get_or fours 0 0 ≡ get_or v 0 0 * 1000 + get_or v 1 0 * 100 + get_or v 2 0 * 10 + get_or v 3 0 = each 0 (omega arith) in
    let p1 : get_or fours 1 0 ≡ get_or v 4 0 * 1000 + get_or v 5 0 * 100 + get_or v 6 0 * 10 + get_or v 7 0 = each 1 (omega arith) in
    let p2 : get_or fours 2 0 ≡ get_or v 8 0 * 1000 + get_or v 9 0 * 100 + get_or v 10 0 * 10 + get_or v 11 0 = each 2 (omega arith) in
    let p3 : get_or fours 3 0 ≡ get_or v 12 0 * 1000 + get_or v 13 0 * 100 + get_or v 14 0 * 10 + get_or v 15 0 = each 3 (omega arith) in
    let f0 : number_of (take 4 v) ≡ number_of (take 0 v) * 10000 + (get_or v 0 0 * 1000 + get_or v 1 0 * 100 + get_or v 2 0 * 10 + get_or v 3 0) = four_digits v 0 (omega arith) in
    let f1 : number_of (take 8 v) ≡ number_of (take 4 v) * 10000 + (get_or v 4 0 * 1000 + get_or v 5 0 * 100 + get_or v 6 0 * 10 + get_or v 7 0) = four_digits v 4 (omega arith) in
    let f2 : number_of (take 12 v) ≡ number_of (take 8 v) * 10000 + (get_or v 8 0 * 1000 + get_or v 9 0 * 100 + get_or v 10 0 * 10 + get_or v 11 0) = four_digits v 8 (omega arith) in
    let f3 : number_of (take 16 v) ≡ number_of (take 12 v) * 10000 + (get_or v 12 0 * 1000 + get_or v 13 0 * 100 + get_or v 14 0 * 10 + get_or v 15 0) = four_digits v 12 (omega arith) in
    let whole : number_of (take 16 v) ≡ number_of v = ap number_of (take_all 16 v (omega arith)) in
    omega arith

-- ---- digits at the end

pub zeros_front : (k : ℕ) (xs : List ℕ) → number_of (replicate k 0 ++ xs) ≡ number_of xs
zeros_front zero xs = refl
zeros_front (suc k) xs = omega (arith, zeros_front k xs)

-- the lane of a byte: none in front, and behind it each digit in turn
end_pick : (count i : ℕ) → count ≤ 16 → i < 16 → 16 - count ≤ i → digit_pick (2 * (16 - count)) 2 count (2 * i) ≡ i - (16 - count)
end_pick count i few lt ge =
    let start : ℕ = 2 * (16 - count) in
    let behind : leb start (2 * i) ≡ true = le-leb _ _ (omega arith) in
    let even : eqb ((2 * i - start) % 2) 0 ≡ true = eq-eqb _ _ (omega arith) in
    let place : (2 * i - start) / 2 ≡ i - (16 - count) = omega arith in
    let inside : ltb ((2 * i - start) / 2) count ≡ true = lt-ltb _ _ (omega arith) in
    ap (λ b. cond {A = ℕ} (b && (eqb ((2 * i - start) % 2) 0 && ltb ((2 * i - start) / 2) count)) ((2 * i - start) / 2) 128) behind
    ∙ ap (λ b. cond {A = ℕ} (b && ltb ((2 * i - start) / 2) count) ((2 * i - start) / 2) 128) even
    ∙ ap (λ b. cond {A = ℕ} b ((2 * i - start) / 2) 128) inside
    ∙ place

front_pick : (count i : ℕ) → count ≤ 16 → i < 16 - count → digit_pick (2 * (16 - count)) 2 count (2 * i) ≡ 128
front_pick count i few lt =
    let start : ℕ = 2 * (16 - count) in
    let before : leb start (2 * i) ≡ false = lt-leb _ _ (omega arith) in
    ap (λ b. cond {A = ℕ} (b && (eqb ((2 * i - start) % 2) 0 && ltb ((2 * i - start) / 2) count)) ((2 * i - start) / 2) 128) before

lane_of : (digits : List ℕ) (k : ℕ) → k < 16 → picked_at digits k ≡ get_or digits k 0
lane_of digits k lt = ap (λ b. cond {A = ℕ} b (get_or digits k 0) 0) (lt-ltb _ _ lt)

pub ended : (count : ℕ) (picks digits v : List ℕ) → count ≤ 16 → AreDigitPicks true (2 * (16 - count)) 2 count picks → length digits ≡ 16 → length v ≡ 16
    → ((i : ℕ) → i < 16 → get_or v i 0 ≡ picked_at digits (get_or picks i 0)) → v ≡ replicate (16 - count) 0 ++ take count digits
ended count picks digits v few are digits_long long each =
    let zeros : length (replicate {A = ℕ} (16 - count) 0) ≡ 16 - count = length-replicate {A = ℕ} (16 - count) 0 in
    let rest : length (take count digits) ≡ count = length-take-le count digits (omega arith) in
    ext_get_or 0 v (replicate (16 - count) 0 ++ take count digits) (omega (arith, length-append (replicate {A = ℕ} (16 - count) 0) (take count digits))) (λ i lt.
    elim (cases_lt i (16 - count)) [
      | inl before ↦
          each i (omega arith) ∙ ap (picked_at digits) (are i (omega arith) ∙ front_pick count i few before)
          ∙ sym (get_or_append_left (replicate (16 - count) 0) (take count digits) 0 i (omega arith) ∙ get_or-replicate {A = ℕ} (16 - count) i 0 0 before)
      | inr ge ↦
          each i (omega arith) ∙ ap (picked_at digits) (are i (omega arith) ∙ end_pick count i few (omega arith) ge) ∙ lane_of digits (i - (16 - count)) (omega arith)
          ∙ sym (get_or-append_right (replicate (16 - count) 0) (take count digits) (16 - count) i 0 zeros ge ∙ get_or-take count digits (i - (16 - count)) 0 (omega arith))
    ])

-- ---- the word

turned_word : (w : Width) (m : ℕ) → 0 < m → m < 256 ^ width_bytes w → (2 ^ 64 - m) % 2 ^ 64 % 256 ^ width_bytes w ≡ 256 ^ width_bytes w - m
turned_word Two m some lt = omega arith
turned_word Four m some lt = omega arith
turned_word Eight m some lt = omega arith

plain_word : (w : Width) (m : ℕ) → m < 256 ^ width_bytes w → m % 256 ^ width_bytes w ≡ m
plain_word Two m lt = omega arith
plain_word Four m lt = omega arith
plain_word Eight m lt = omega arith

pub word_is : (w : Width) (minus : Bool) (m : ℕ) → (IsTrue minus → 0 < m) → m < 256 ^ width_bytes w → turned minus m % 256 ^ width_bytes w ≡ cond {A = ℕ} minus (256 ^ width_bytes w - m) m
word_is w true m some lt = turned_word w m (some refl) lt
word_is w false m some lt = plain_word w m lt

pub second : (a b : Bool) → IsTrue (a && b) → IsTrue b
second true b h = h
second false b h = absurd (cc)

pub written_word : (count : ℕ) (signed : Bool) (w : BinaryWriter) (digits v bytes : List ℕ) (minus : Bool) (magnitude word : ℕ) → IsBinaryWriterOf count signed w → length digits ≡ 16 → AreTens digits → (IsTrue minus → 0 < number_of (take count digits))
    → length v ≡ 16 → ((i : ℕ) → i < 16 → get_or v i 0 ≡ picked_at digits (get_or w.picks.lanes i 0)) → (AreTens v → magnitude ≡ number_of v) → word ≡ turned (w.signed && minus) magnitude
    → bytes ≡ big_bytes (width_bytes w.width) (word % 256 ^ width_bytes w.width) → bytes ≡ binary_form count (signed && minus) (take count digits)
written_word count signed w digits v bytes minus magnitude word is digits_long tens some long each number turned_is bytes_are =
    let below : Bool = signed && minus in
    let left : IsTrue below → 0 < number_of (take count digits) = λ t. some (second signed minus t) in
    let ds : List ℕ = take count digits in
    let m : ℕ = number_of ds in
    let ds_long : length ds ≡ count = length-take-le count digits (omega (arith, is.few)) in
    let valid : IsDigits ds = all_digits ds (λ i lt. omega (arith, get_or-take count digits i 0 (omega arith), tens i (omega (arith, is.few)))) in
    let small : m < 10 ^ count = subst (λ n. m < 10 ^ n) ds_long (number_of-lt ds valid) in
    let fits : m < 256 ^ width_bytes w.width = omega (arith, fits_half count m (omega (arith, is.few)) small, (width count).whole, ap (λ n. 256 ^ n) is.wide) in
    let v_is : v ≡ replicate (16 - count) 0 ++ ds = ended count w.picks.lanes digits v is.few is.placed digits_long long each in
    let v_tens : AreTens v = λ i lt. omega (arith, each i lt, picked_small digits (get_or w.picks.lanes i 0) tens) in
    let magnitude_is : magnitude ≡ m = number v_tens ∙ ap number_of v_is ∙ zeros_front (16 - count) ds in
    let word_value : word % 256 ^ width_bytes w.width ≡ cond {A = ℕ} below (256 ^ width_bytes w.width - m) m =
    ap (λ x. x % 256 ^ width_bytes w.width) (turned_is ∙ ap (λ b. turned (b && minus) magnitude) is.sign ∙ ap (turned below) magnitude_is) ∙ word_is w.width below m left fits in
    bytes_are ∙ ap (big_bytes (width_bytes w.width)) word_value ∙ ap (λ n. big_bytes n (cond {A = ℕ} below (256 ^ n - m) m)) is.wide
  where
    picked_small : (digits : List ℕ) (k : ℕ) → AreTens digits → picked_at digits k < 10
    picked_small digits k tens = go (ltb k 16) refl
      where
        go : (b : Bool) → ltb k 16 ≡ b → cond {A = ℕ} b (get_or digits k 0) 0 < 10
        go true e = tens k (ltb-true _ _ e)
        go false e = omega arith
