-- Items of sixteen digits and more that have a byte for each digit, written.
use Rattle.std.proofs.Common.{◌≡◌, ◌≢◌, ℕ, ◌+◌, ◌-◌, ◌*◌, ◌%◌, ◌<◌, ◌≤◌, Bool, true, false, cond, List, [], ◌∷◌, ◌++◌, length, get_or, take, drop, refl, sym, ap, subst, ◌∙◌, inl, inr, arith, get_or-take, length-take-le, length-drop, length-append, get_or-set_other, get_or-set_same}
use Rattle.std.proofs.Math.ListN.{set, length-set}
use Rattle.std.proofs.lemmas.Bool.{cases_eq}
use Rattle.std.proofs.lemmas.List.{ext_get_or, get_or-map, length-map, get_or-append_right, take-append-drop, drop_all, take_at}
use Rattle.std.proofs.lemmas.Slice.{take-put_mid, drop-put_mid}
use borrow.Rule.Slice.PartMut.{put_mid}
use Rattle.cob_decimal.specs.Decimal.{IsDigits}
use Rattle.cob_codec.specs.Sign.{sign_code, sign_place}
use Rattle.cob_codec.specs.Zoned.{digit_bytes, zoned_form}
use Rattle.cob_codec.specs.Separate.{separate_form, sign_byte}
use Rattle.cob_codec.proofs.SignLemmas.{digit_small}
use Rattle.cob_codec.proofs.SeparateLaws as separate
use Rattle.cob_codec.proofs.ZonedLaws as zoned
use Rattle.cob_codec_lanes.specs.Lanes.{AreTens}
use Rattle.cob_codec_lanes.specs.DigitItems.{AreDigitsMade, IsDigitWriterOf, sign_written}
use Rattle.cob_codec_lanes.specs.Windows.{first_byte, own_sign_byte}
use Rattle.cob_codec_lanes.specs.declared.digit_writer.DigitWriter.{DigitWriter}
use Rattle.cob_codec_lanes.proofs.DigitKinds.{digit_in_form, sign_in_form}
use Rattle.cob_codec_lanes.proofs.DigitReading.{bare}
use Rattle.cob_codec_lanes.proofs.HalfLemmas.{all_digits}
use Rattle.cob_codec_lanes.proofs.WideWordLemmas.{valid_both}
use Rattle.cob_codec_lanes.proofs.WindowLemmas.{nothing_more}

-- ---- the fields of writers

-- The fields of a writer of items whose digits and sign stand so.
pub record WritesDigits (size first count place : ℕ) (own : Bool) (sign : Bool → ℕ) (w : DigitWriter) : Type 0 where
  pub size_is : w.digits.size ≡ size
  pub first_is : w.digits.first ≡ first
  pub count_is : w.digits.count ≡ count
  pub place_is : w.digits.place ≡ place
  pub own_is : w.own ≡ own
  pub plus_is : w.plus ≡ sign false
  pub minus_is : w.minus ≡ sign true

-- the bytes that are made, in the words of these fields
pub record ArePut (size first count place : ℕ) (own : Bool) (sign : ℕ) (digits bytes : List ℕ) : Type 0 where
  pub long : length bytes ≡ size
  pub each : (k : ℕ) → k < count → first + k ≢ place → get_or bytes (first + k) 0 ≡ 240 + get_or digits k 0
  pub said : get_or bytes place 0 ≡ sign + cond {A = ℕ} own 0 (get_or digits (place - first) 0)

to_put : (size first count place : ℕ) (own : Bool) (sign : Bool → ℕ) (w : DigitWriter) (minus : Bool) (digits bytes : List ℕ) → WritesDigits size first count place own sign w → AreDigitsMade w minus digits bytes
    → ArePut size first count place own (sign minus) digits bytes
to_put size first count place own sign w minus digits bytes f m = record {
  long = m.long ∙ f.size_is;
  each = λ k lt other. subst (λ n. get_or bytes (n + k) 0 ≡ 240 + get_or digits k 0) f.first_is (m.each k (omega (arith, f.count_is)) (λ e. other (omega (arith, f.first_is, f.place_is))));
  said = ap (λ p. get_or bytes p 0) (sym f.place_is) ∙ m.sign ∙ ap (λ s. s + cond {A = ℕ} w.own 0 (get_or digits (w.digits.place - w.digits.first) 0)) (sign_is minus)
      ∙ ap (λ b. sign minus + cond {A = ℕ} b 0 (get_or digits (w.digits.place - w.digits.first) 0)) f.own_is
      ∙ ap (λ p. sign minus + cond {A = ℕ} own 0 (get_or digits (p - w.digits.first) 0)) f.place_is ∙ ap (λ p. sign minus + cond {A = ℕ} own 0 (get_or digits (place - p) 0)) f.first_is;
}
  where
    sign_is : (m : Bool) → sign_written w m ≡ sign m
    sign_is true = f.minus_is
    sign_is false = f.plus_is

writer_of : (written : Bool → List ℕ → List ℕ) (size first count place : ℕ) (own : Bool) (sign : Bool → ℕ) (w : DigitWriter) → WritesDigits size first count place own sign w
    → ((minus : Bool) (digits bytes : List ℕ) → length digits ≡ count → IsDigits digits → ArePut size first count place own (sign minus) digits bytes → bytes ≡ written minus digits)
    → IsDigitWriterOf written count size w
writer_of written size first count place own sign w f writes = record {
  many = f.count_is;
  bytes = f.size_is;
  writes = λ minus digits bytes long valid made. writes minus digits bytes long valid (to_put size first count place own sign w minus digits bytes f made);
}

-- ---- zoned items

writes_zoned : (count : ℕ) (signed leading : Bool) (w : DigitWriter) → 0 < count → WritesDigits count 0 count (sign_place signed leading count) false (λ minus. sign_code signed minus * 16) w
    → IsDigitWriterOf (zoned_form signed leading) count count w
writes_zoned count signed leading w some f =
    writer_of (zoned_form signed leading) count 0 count (sign_place signed leading count) false (λ minus. sign_code signed minus * 16) w f
    (λ minus digits bytes long valid p.
    let place : ℕ = sign_place signed leading count in
    let within : place < count = zoned.place_within signed leading count some in
    let code : ℕ = sign_code signed minus in
    let last : ℕ = code * 16 + get_or digits place 0 in
    let form : zoned_form signed leading minus digits ≡ set (digit_bytes digits) place last =
    ap (λ n. set (digit_bytes digits) (sign_place signed leading n) (code * 16 + get_or digits (sign_place signed leading n) 0)) long in
    let all : length (digit_bytes digits) ≡ count = length-map digits (λ d. 240 + d) ∙ long in
    let whole : length (set (digit_bytes digits) place last) ≡ count = length-set (digit_bytes digits) place last ∙ all in
    ext_get_or 0 bytes (set (digit_bytes digits) place last) (p.long ∙ sym whole) (λ k lt.
    let inside : k < count = omega (arith, p.long) in
    elim (cases_eq k place) [
      | inl at ↦
          let here : place - 0 ≡ place = omega arith in
          let own : get_or bytes place 0 ≡ last = p.said ∙ ap (λ n. code * 16 + get_or digits n 0) here in
          ap (λ n. get_or bytes n 0) at ∙ own ∙ sym (ap (λ n. get_or (set (digit_bytes digits) place last) n 0) at ∙ get_or-set_same (digit_bytes digits) place last 0 (omega (arith, all)))
      | inr other ↦
          let there : k < length digits = omega arith in
          ap (λ n. get_or bytes n 0) (sym (bare k)) ∙ p.each k inside (λ e. other (sym (bare k) ∙ e)) ∙ sym (get_or-set_other (digit_bytes digits) place k last 0 other ∙ get_or-map (λ d. 240 + d) digits k 0 0 there)
    ])
    ∙ sym form)

-- the same, where the number of digits is another's
pub zoned_digit_writer : (n count : ℕ) (signed leading : Bool) (w : DigitWriter) → n ≡ count → 0 < n → WritesDigits n 0 n (sign_place signed leading n) false (λ minus. sign_code signed minus * 16) w
    → IsDigitWriterOf (zoned_form signed leading) count count w
zoned_digit_writer n count signed leading w e some f = subst (λ k. IsDigitWriterOf (zoned_form signed leading) k k w) e (writes_zoned n signed leading w some f)

-- ---- items with a separate sign

-- each byte is a digit's or the sign's
pub which : (leading : Bool) (count i : ℕ) → i < count + 1 → i ≢ own_sign_byte leading count → (first_byte leading + (i - first_byte leading) ≡ i) × (i - first_byte leading < count)
which true count i lt other = (omega arith, omega arith)
which false count i lt other = (omega arith, omega arith)

own_apart : (leading : Bool) (count k : ℕ) → k < count → first_byte leading + k ≢ own_sign_byte leading count
own_apart true count k lt e = absurd (omega arith)
own_apart false count k lt e = absurd (omega arith)

writes_separate : (count : ℕ) (leading : Bool) (w : DigitWriter) → WritesDigits (count + 1) (first_byte leading) count (own_sign_byte leading count) true sign_byte w → IsDigitWriterOf (separate_form leading) count (count + 1) w
writes_separate count leading w f =
    writer_of (separate_form leading) (count + 1) (first_byte leading) count (own_sign_byte leading count) true sign_byte w f
    (λ minus digits bytes long valid p.
    let form : List ℕ = separate_form leading minus digits in
    ext_get_or 0 bytes form (p.long ∙ sym (separate.stored_length count leading minus digits long)) (λ i lt.
    elim (cases_eq i (own_sign_byte leading count)) [
      | inl at ↦ ap (λ n. get_or bytes n 0) at ∙ p.said ∙ plain (sign_byte minus) ∙ sym (ap (λ n. get_or form n 0) at ∙ sign_in_form leading minus count digits long)
      | inr other ↦
          let digit = which leading count i (omega (arith, p.long)) other in
          let k : ℕ = i - first_byte leading in
          ap (λ n. get_or bytes n 0) (sym digit.0) ∙ p.each k digit.1 (own_apart leading count k digit.1) ∙ sym (ap (λ n. get_or form n 0) (sym digit.0) ∙ digit_in_form leading minus count k digits long digit.1)
    ]))
  where
    plain : (n : ℕ) → n + 0 ≡ n
    plain n = omega arith

-- the same, where the number of digits is another's
pub separate_digit_writer : (n count : ℕ) (leading : Bool) (w : DigitWriter) → n ≡ count → WritesDigits (n + 1) (first_byte leading) n (own_sign_byte leading n) true sign_byte w → IsDigitWriterOf (separate_form leading) count (count + 1) w
separate_digit_writer n count leading w e f = subst (λ k. IsDigitWriterOf (separate_form leading) k (k + 1) w) e (writes_separate n leading w f)

-- ---- what is written

-- sixteen bytes in front, and sixteen at the end over them
pub ends_joined : (n : ℕ) (front back first last new : List ℕ) → 16 ≤ n → n ≤ 32 → length front ≡ 16 → length back ≡ 16 → length first ≡ n → take 16 first ≡ digit_bytes front
    → new ≡ take (n - 16) first ++ last → last ≡ digit_bytes back → new ≡ digit_bytes (take (n - 16) front ++ back)
ends_joined n front back first last new many room front_long back_long first_long lead is end =
    let m : ℕ = n - 16 in
    let front_bytes : length (digit_bytes front) ≡ 16 = length-map front (λ d. 240 + d) ∙ front_long in
    let taken : take m first ≡ digit_bytes (take m front) =
    ext_get_or 0 (take m first) (digit_bytes (take m front)) (omega (arith, length-take-le m first (omega arith), length-map (take m front) (λ d. 240 + d), length-take-le m front (omega arith))) (λ k lt.
    let inside : k < m = omega (arith, length-take-le m first (omega arith)) in
    let short : k < length front = omega arith in
    let cut : k < length (take m front) = omega (arith, length-take-le m front (omega arith)) in
    get_or-take m first k 0 inside ∙ sym (get_or-take 16 first k 0 (omega arith)) ∙ ap (λ xs. get_or xs k 0) lead ∙ get_or-map (λ d. 240 + d) front k 0 0 short
    ∙ sym (get_or-map (λ d. 240 + d) (take m front) k 0 0 cut ∙ ap (λ d. 240 + d) (get_or-take m front k 0 inside))) in
    is ∙ ap (λ xs. xs ++ last) taken ∙ ap (λ xs. digit_bytes (take m front) ++ xs) end ∙ joined (take m front) back
  where
    joined : (xs ys : List ℕ) → digit_bytes xs ++ digit_bytes ys ≡ digit_bytes (xs ++ ys)
    joined [] ys = refl
    joined (x ∷ xs) ys = ap (λ zs. (240 + x) ∷ zs) (joined xs ys)

-- bytes put over the end of others
pub put_end : (m : ℕ) (before last : List ℕ) → m ≤ length before → length last ≡ length before - m → put_mid m (length before - m) before last ≡ take m before ++ last
put_end m before last within long =
    let n : ℕ = length before in
    let k : ℕ = n - m in
    let whole : List ℕ = put_mid m k before last in
    let written : take n whole ≡ take m before ++ last = take-put_mid m k before last n (omega arith) within in
    let rest : drop n whole ≡ drop n before = drop-put_mid m k before last n (omega arith) within (omega arith) in
    let none : drop n before ≡ [] = drop_all n before (omega arith) in
    sym (take-append-drop n whole) ∙ ap (λ xs. xs ++ drop n whole) written ∙ ap (λ xs. (take m before ++ last) ++ xs) (rest ∙ none) ∙ nothing_more (take m before ++ last)

pub both_put : (out front back first last : List ℕ) → 16 ≤ length out → length out ≤ 32 → length front ≡ 16 → length back ≡ 16 → first ≡ digit_bytes front → last ≡ digit_bytes back
    → put_mid (length out - 16) (length (first ++ drop 16 out) - (length out - 16)) (first ++ drop 16 out) last ≡ digit_bytes (take (length out - 16) front ++ back)
both_put out front back first last many room front_long back_long first_is last_is =
    let n : ℕ = length out in
    let m : ℕ = n - 16 in
    let before : List ℕ = first ++ drop 16 out in
    let first_long : length first ≡ 16 = ap length first_is ∙ length-map front (λ d. 240 + d) ∙ front_long in
    let last_long : length last ≡ 16 = ap length last_is ∙ length-map back (λ d. 240 + d) ∙ back_long in
    let all : length before ≡ n = omega (arith, length-append first (drop 16 out), length-drop 16 out) in
    let lead : take 16 before ≡ digit_bytes front = take_at first (drop 16 out) 16 first_long ∙ first_is in
    ends_joined n front back before last _ many room front_long back_long all lead (put_end m before last (omega arith) (omega arith)) last_is

-- sixteen characters
pub characters_are : (digits zones sum : List ℕ) → length digits ≡ 16 → AreTens digits → length sum ≡ 16 → ((i : ℕ) → i < 16 → get_or zones i 0 ≡ 240) → ((i : ℕ) → i < 16 → get_or sum i 0 ≡ (get_or digits i 0 + get_or zones i 0) % 256)
    → sum ≡ digit_bytes digits
characters_are digits zones sum long tens sum_long zone each =
    ext_get_or 0 sum (digit_bytes digits) (sum_long ∙ sym (length-map digits (λ d. 240 + d) ∙ long)) (λ i lt.
    let lane : i < 16 = omega arith in
    let inside : i < length digits = omega arith in
    let here : get_or sum i 0 ≡ 240 + get_or digits i 0 = omega (arith, each i lane, zone i lane, tens i lane) in
    here ∙ sym (get_or-map (λ d. 240 + d) digits i 0 0 inside))

-- ---- an item

part_at : (a k i : ℕ) (xs ys : List ℕ) → a ≤ length xs → length ys ≡ k → i < k → get_or (put_mid a k xs ys) (a + i) 0 ≡ get_or ys i 0
part_at a k i xs ys within long lt =
    let whole : List ℕ = put_mid a k xs ys in
    let front : take (a + k) whole ≡ take a xs ++ ys = take-put_mid a k xs ys (a + k) (omega arith) within in
    let lead : length (take a xs) ≡ a = length-take-le a xs within in
    let behind : a + i - a ≡ i = omega arith in
    sym (get_or-take (a + k) whole (a + i) 0 (omega arith)) ∙ ap (λ zs. get_or zs (a + i) 0) front ∙ get_or-append_right (take a xs) ys a (a + i) 0 lead (omega arith) ∙ ap (λ n. get_or ys n 0) behind

whole_long : (a k : ℕ) (xs ys : List ℕ) → a + k ≤ length xs → length ys ≡ k → length (put_mid a k xs ys) ≡ length xs
whole_long a k xs ys within long =
    let whole : List ℕ = put_mid a k xs ys in
    let front : take (a + k) whole ≡ take a xs ++ ys = take-put_mid a k xs ys (a + k) (omega arith) (omega arith) in
    let rest : drop (a + k) whole ≡ drop (a + k) xs = drop-put_mid a k xs ys (a + k) (omega arith) (omega arith) long in
    sym (ap length (take-append-drop (a + k) whole)) ∙ length-append (take (a + k) whole) (drop (a + k) whole)
    ∙ omega (arith, ap length front, ap length rest, length-append (take a xs) ys, length-take-le a xs (omega arith), length-drop (a + k) xs)

pub made_of : (w : DigitWriter) (minus : Bool) (out part ds : List ℕ) (k sign digit : ℕ) → length out ≡ w.digits.size → k ≡ w.digits.count → length ds ≡ w.digits.count → IsDigits ds → part ≡ digit_bytes ds
    → (w.own ≡ false → (w.digits.first ≤ w.digits.place) × (w.digits.place < w.digits.first + w.digits.count)) → w.digits.first + w.digits.count ≤ w.digits.size → w.digits.place < w.digits.size
    → sign ≡ sign_written w minus → digit ≡ cond {A = ℕ} w.own 0 (get_or (put_mid w.digits.first k out part) w.digits.place 0 % 16)
    → AreDigitsMade w minus ds (set (put_mid w.digits.first k out part) w.digits.place (sign + digit))
made_of w minus out part ds k sign digit long count_is many valid part_is among within there sign_is digit_is =
    let first : ℕ = w.digits.first in
    let place : ℕ = w.digits.place in
    let all : List ℕ = put_mid first k out part in
    let part_long : length part ≡ k = ap length part_is ∙ length-map ds (λ d. 240 + d) ∙ many ∙ sym count_is in
    let all_long : length all ≡ w.digits.size = whole_long first k out part (omega arith) part_long ∙ long in
    let byte : (i : ℕ) → i < w.digits.count → get_or all (first + i) 0 ≡ 240 + get_or ds i 0 = λ i lt.
    let inside : i < length ds = omega arith in
    part_at first k i out part (omega arith) part_long (omega arith) ∙ ap (λ xs. get_or xs i 0) part_is ∙ get_or-map (λ d. 240 + d) ds i 0 0 inside in
    record {
      long = length-set all place (sign + digit) ∙ all_long;
      each = λ i lt other. get_or-set_other all place (first + i) (sign + digit) 0 other ∙ byte i lt;
      sign = get_or-set_same all place (sign + digit) 0 (omega (arith, all_long)) ∙ ap (λ s. s + digit) sign_is ∙ ap (λ d. sign_written w minus + d) (digit_is ∙ under w.own refl);
    }
  where
    under : (own : Bool) → w.own ≡ own → cond {A = ℕ} own 0 (get_or (put_mid w.digits.first k out part) w.digits.place 0 % 16) ≡ cond {A = ℕ} own 0 (get_or ds (w.digits.place - w.digits.first) 0)
    under true e = refl
    under false e =
        let is : (w.digits.first ≤ w.digits.place) × (w.digits.place < w.digits.first + w.digits.count) = among e in
        let i : ℕ = w.digits.place - w.digits.first in
        let lt : i < w.digits.count = omega (arith, is.0, is.1) in
        let inside : i < length ds = omega arith in
        let at : w.digits.first + i ≡ w.digits.place = omega (arith, is.0) in
        let part_long : length part ≡ k = ap length part_is ∙ length-map ds (λ d. 240 + d) ∙ many ∙ sym count_is in
        let byte : get_or (put_mid w.digits.first k out part) w.digits.place 0 ≡ 240 + get_or ds i 0 =
        ap (λ n. get_or (put_mid w.digits.first k out part) n 0) (sym at) ∙ part_at w.digits.first k i out part (omega arith) part_long (omega arith) ∙ ap (λ xs. get_or xs i 0) part_is ∙ get_or-map (λ d. 240 + d) ds i 0 0 inside in
        omega (arith, byte, digit_small ds i valid inside)

pub both_long : (count : ℕ) (front back : List ℕ) → 16 ≤ count → count ≤ 32 → length front ≡ 16 → length back ≡ 16 → length (take (count - 16) front ++ back) ≡ count
both_long count front back many room first last = omega (arith, length-append (take (count - 16) front) back, length-take-le (count - 16) front (omega arith))

pub both_valid : (count : ℕ) (front back : List ℕ) → 16 ≤ count → count ≤ 32 → length front ≡ 16 → length back ≡ 16 → AreTens front → AreTens back → IsDigits (take (count - 16) front ++ back)
both_valid count front back many room first last tens more =
    valid_both (take (count - 16) front) back
    (all_digits (take (count - 16) front) (λ i lt.
    let long : length (take (count - 16) front) ≡ count - 16 = length-take-le (count - 16) front (omega arith) in
    let inside : i < count - 16 = omega arith in
    omega (arith, get_or-take (count - 16) front i 0 inside, tens i (omega arith))))
    (all_digits back (λ i lt. more i (omega arith)))

-- so many bytes stand there
pub part_long : (first count k : ℕ) (out : List ℕ) → k ≡ count → first + count ≤ length out → length (take k (drop first out)) ≡ count
part_long first count k out is within = length-take-le k (drop first out) (omega (arith, length-drop first out)) ∙ is
