-- Binary items of more than sixteen digits, read and written.
use Rattle.std.proofs.Common.{◌≡◌, ℕ, ◌+◌, ◌-◌, ◌*◌, ◌/◌, ◌%◌, ◌^◌, ◌<◌, ◌≤◌, ◌&&◌, Bool, true, false, IsTrue, cond, ltb, leb, ltb-true, List, [], ◌∷◌, ◌++◌, length, take, get_or, replicate, refl, sym, ap, subst, ◌∙◌, arith, length-append, length-take-le, get_or-take}
use Rattle.std.proofs.lemmas.List.{append_assoc}
use Rattle.std.proofs.lemmas.Bool.{lt-leb, ltb-false}
use Rattle.cob_decimal.specs.Decimal.{IsDigits, number_of}
use Rattle.cob_decimal.proofs.DecimalLemmas.{number_of-lt}
use Rattle.cob_decimal.proofs.NumberTextLemmas.{number_of-append}
use Rattle.byteorder.specs.Endian.{big_bytes}
use Rattle.cob_codec.specs.Binary.{IsBinary, binary_form, binary_length, binary_number, signed_number}
use Rattle.cob_codec.proofs.BinaryLaws.{fits_half, same_signed, width}
use Rattle.cob_codec_lanes.specs.Lanes.{AreTens, picked_at}
use Rattle.cob_codec_lanes.specs.Wide.{AreHeldWide, IsWideRead}
use Rattle.cob_codec_lanes.specs.WideWords.{IsWideWordReaderOf, IsWideWordWriterOf}
use Rattle.cob_codec_lanes.specs.Windows.{last_bytes}
use Rattle.cob_codec_lanes.specs.Words.{turned, width_bytes}
use Rattle.cob_codec_lanes.specs.declared.width.Width.TheVariants.{Eight}
use Rattle.cob_codec_lanes.specs.declared.wide_word.WideWordReader.{WideWordReader}
use Rattle.cob_codec_lanes.specs.declared.wide_word.WideWordWriter.{WideWordWriter}
use Rattle.cob_codec_lanes.proofs.HalfLemmas.{all_digits}
use Rattle.cob_codec_lanes.proofs.WordReading.{digits_for, last_long}
use Rattle.cob_codec_lanes.proofs.WordWriting.{ended, second, word_is, zeros_front}

pub valid_both : (xs ys : List ℕ) → IsDigits xs → IsDigits ys → IsDigits (xs ++ ys)
valid_both [] ys f g = g
valid_both (x ∷ xs) ys f g = (f.0, valid_both xs ys f.1 g)

pub number_of_both : (front back : List ℕ) → length back ≡ 16 → number_of (front ++ back) ≡ number_of front * 10000000000000000 + number_of back
number_of_both front back long = number_of-append front back ∙ ap (λ n. number_of front * 10 ^ n + number_of back) long

pub held_word : (number : ℕ) (front back : List ℕ) → length front ≡ 16 → length back ≡ 16 → IsDigits front → IsDigits back
    → number_of front ≡ number / 10000000000000000 → number_of back ≡ number % 10000000000000000 → AreHeldWide number front back
held_word number front back first last f b high low = record {
  first = first;
  last = last;
  valid = valid_both front back f b;
  value = omega (arith, number_of_both front back last, high, low);
}

-- ---- read

eight : (count : ℕ) → 9 < count → binary_length count ≡ 8
eight count many = ap (λ b. cond {A = ℕ} b 2 (cond {A = ℕ} (leb count 9) 4 8)) (lt-leb _ _ (omega arith)) ∙ ap (λ b. cond {A = ℕ} b 4 8) (lt-leb _ _ many)

pub read_wide_word : (count : ℕ) (signed : Bool) (r : WideWordReader) (bytes front back : List ℕ) (is_number minus : Bool) (magnitude : ℕ) → IsWideWordReaderOf count signed r → width_bytes r.width ≤ length bytes
    → signed_number minus magnitude ≡ binary_number r.signed (last_bytes (width_bytes r.width) bytes) → (IsTrue minus → 0 < magnitude) → is_number ≡ ltb magnitude r.limit
    → AreHeldWide magnitude front back → IsWideRead (IsBinary count signed (last_bytes (binary_length count) bytes)) is_number minus front back
read_wide_word count signed r bytes front back is_number minus magnitude is within value nonzero told held =
    let field : List ℕ = last_bytes (binary_length count) bytes in
    let there : signed_number minus magnitude ≡ binary_number signed field =
    value ∙ ap (λ b. binary_number b (last_bytes (width_bytes r.width) bytes)) is.sign ∙ ap (λ n. binary_number signed (last_bytes n bytes)) is.wide in
    record {
      number = λ e.
          let small : magnitude < r.limit = ltb-true _ _ (sym told ∙ e) in
          let below : magnitude < 10 ^ count = omega (arith, is.limits, small) in
          let ds = digits_for count magnitude below in
          record {
            negative = minus;
            digits = ds.0;
            represented = record {
              long = ap (λ n. length (last_bytes n bytes)) (sym is.wide) ∙ last_long (width_bytes r.width) bytes within ∙ is.wide;
              count_is = ds.2;
              valid = ds.1;
              nonzero = λ t. omega (arith, nonzero t, ds.3);
              value = ap (signed_number minus) ds.3 ∙ there;
            };
            valid = ds.1;
            sign = (λ t. (t, omega (arith, nonzero t, ds.3)), λ p. p.0);
            held = subst (λ n. AreHeldWide n front back) (sym ds.3) held;
          };
      nothing = λ e negative digits it.
          let same = same_signed negative minus (number_of digits) magnitude it.nonzero nonzero (it.value ∙ sym there) in
          let equal : number_of digits ≡ magnitude = same.1 in
          let small : number_of digits < 10 ^ count = rw (← it.count_is) (number_of-lt digits it.valid) in
          let great : r.limit ≤ magnitude = ltb-false _ _ (sym told ∙ e) in
          omega (arith, is.limits, equal, small, great);
    }

-- ---- written

pub wrapped_both : (front back : List ℕ) (high low made result : ℕ) → length back ≡ 16 → high ≡ number_of front → low ≡ number_of back → number_of (front ++ back) < 2 ^ 64
    → made ≡ high * 10000000000000000 % 2 ^ 64 → result ≡ (made + low) % 2 ^ 64 → result ≡ number_of (front ++ back)
wrapped_both front back high low made result long a b small c d = omega (arith, number_of_both front back long)

pub written_wide_word : (count : ℕ) (signed : Bool) (w : WideWordWriter) (front back v bytes : List ℕ) (minus : Bool) (magnitude word : ℕ) → IsWideWordWriterOf count signed w → length front ≡ 16 → length back ≡ 16 → AreTens front → AreTens back
    → (IsTrue minus → 0 < number_of (take (count - 16) front ++ back)) → length v ≡ 16 → ((i : ℕ) → i < 16 → get_or v i 0 ≡ picked_at front (get_or w.picks.lanes i 0))
    → (AreTens v → AreTens back → number_of (v ++ back) < 2 ^ 64 → magnitude ≡ number_of (v ++ back)) → word ≡ turned (w.signed && minus) magnitude → bytes ≡ big_bytes 8 (word % 256 ^ 8)
    → bytes ≡ binary_form count (signed && minus) (take (count - 16) front ++ back)
written_wide_word count signed w front back v bytes minus magnitude word is first last tens more some v_long each number turned_is bytes_are =
    let n : ℕ = count - 16 in
    let few : n ≤ 16 = omega (arith, is.few) in
    let below : Bool = signed && minus in
    let left : IsTrue below → 0 < number_of (take n front ++ back) = λ t. some (second signed minus t) in
    let lead : List ℕ = take n front in
    let lead_long : length lead ≡ n = length-take-le n front (omega arith) in
    let ds : List ℕ = lead ++ back in
    let m : ℕ = number_of ds in
    let ds_long : length ds ≡ count = omega (arith, length-append lead back, is.many) in
    let lead_valid : IsDigits lead = all_digits lead (λ i lt. omega (arith, get_or-take n front i 0 (omega arith), tens i (omega arith))) in
    let back_valid : IsDigits back = all_digits back (λ i lt. more i (omega arith)) in
    let valid : IsDigits ds = valid_both lead back lead_valid back_valid in
    let small : m < 10 ^ count = subst (λ k. m < 10 ^ k) ds_long (number_of-lt ds valid) in
    let bytes8 : binary_length count ≡ 8 = eight count (omega (arith, is.many)) in
    let fits : m < 256 ^ 8 = omega (arith, fits_half count m is.few small, (width count).whole, ap (λ k. 256 ^ k) bytes8) in
    let v_is : v ≡ replicate (16 - n) 0 ++ lead = ended n w.picks.lanes front v few is.placed first v_long each in
    let all : v ++ back ≡ replicate (16 - n) 0 ++ ds = ap (λ xs. xs ++ back) v_is ∙ append_assoc (replicate (16 - n) 0) lead back in
    let whole : number_of (v ++ back) ≡ m = ap number_of all ∙ zeros_front (16 - n) ds in
    let v_tens : AreTens v = λ i lt. omega (arith, each i lt, picked_small front (get_or w.picks.lanes i 0) tens) in
    let magnitude_is : magnitude ≡ m = number v_tens more (omega (arith, whole, fits)) ∙ whole in
    let word_value : word % 256 ^ 8 ≡ cond {A = ℕ} below (256 ^ 8 - m) m =
    ap (λ x. x % 256 ^ 8) (turned_is ∙ ap (λ b. turned (b && minus) magnitude) is.sign ∙ ap (turned below) magnitude_is) ∙ word_is Eight below m left fits in
    bytes_are ∙ ap (big_bytes 8) word_value ∙ ap (λ k. big_bytes k (cond {A = ℕ} below (256 ^ k - m) m)) (sym bytes8)
  where
    picked_small : (digits : List ℕ) (k : ℕ) → AreTens digits → picked_at digits k < 10
    picked_small digits k tens = go (ltb k 16) refl
      where
        go : (b : Bool) → ltb k 16 ≡ b → cond {A = ℕ} b (get_or digits k 0) 0 < 10
        go true e = tens k (ltb-true _ _ e)
        go false e = omega arith
