-- Which items a reader of digits' bytes reads: zoned ones, ones with a separate sign, and numerals.
use Rattle.std.proofs.Common.{◌≡◌, ◌≢◌, ℕ, suc, ◌+◌, ◌-◌, ◌/◌, ◌%◌, ◌<◌, ◌≤◌, Bool, true, false, cond, Some, List, [], ◌∷◌, ◌++◌, map, length, get_or, take, drop, refl, sym, ap, subst, ◌∙◌, arith, get_or-take, get_or-drop, length-take-le, length-drop}
use Rattle.std.proofs.lemmas.List.{get_or-map, length-map, take_all, get_or_append_left, get_or_at, drop_more}
use Rattle.cob_decimal.specs.Decimal.{IsDigits}
use Rattle.cob_codec.specs.Sign.{IsSigned, sign_meaning, sign_place}
use Rattle.cob_codec.specs.Zoned.{IsZoned, digit_bytes, low_digit}
use Rattle.cob_codec.specs.Separate.{IsSignedSeparately, separate_form, sign_byte}
use Rattle.cob_codec.proofs.SignLemmas.{digit_small}
use Rattle.cob_codec.proofs.PackedLemmas.{all_but_last}
use Rattle.cob_codec.proofs.ZonedLaws.{zoned_digit}
use Rattle.cob_codec_lanes.specs.Readers.{AreNumeralsOf}
use Rattle.cob_codec_lanes.specs.Signs.{byte_meaning, own_meaning}
use Rattle.cob_codec_lanes.specs.DigitItems.{AreSignedDigitBytes, IsDigitReaderOf, digits_from}
use Rattle.cob_codec_lanes.specs.Windows.{first_byte, own_sign_byte}
use Rattle.cob_codec_lanes.specs.declared.signs.SignByte.{SignByte}
use Rattle.cob_codec_lanes.specs.declared.signs.SignByte.TheVariants.{Own, Zone}
use Rattle.cob_codec_lanes.specs.declared.digit_reader.DigitReader.{DigitReader}
use Rattle.cob_codec_lanes.proofs.DigitReading.{bare}
use Rattle.cob_codec_lanes.proofs.SeparateReading.{digits_back, own_is, own_of}

-- The fields of a reader of items whose digits and sign stand so.
pub record ReadsDigits (size first count place free : ℕ) (sign : SignByte) (signed : Bool) (r : DigitReader) : Type 0 where
  pub size_is : r.digits.size ≡ size
  pub first_is : r.digits.first ≡ first
  pub count_is : r.digits.count ≡ count
  pub place_is : r.digits.place ≡ place
  pub free_is : r.free ≡ free
  pub sign_is : r.sign ≡ sign
  pub signed_is : r.signed ≡ signed

-- the bytes in the words of these fields
pub record ArePlaced (first count place free : ℕ) (sign : SignByte) (signed : Bool) (bytes : List ℕ) (minus : Bool) : Type 0 where
  pub low : (k : ℕ) → k < count → get_or bytes (first + k) 0 % 16 < 10
  pub zones : (k : ℕ) → k < count → first + k ≢ free → get_or bytes (first + k) 0 / 16 ≡ 15
  pub said : byte_meaning sign signed (get_or bytes place 0) ≡ Some minus

to_placed : (size first count place free : ℕ) (sign : SignByte) (signed : Bool) (r : DigitReader) (bytes : List ℕ) (minus : Bool) → ReadsDigits size first count place free sign signed r → AreSignedDigitBytes r bytes minus
    → ArePlaced first count place free sign signed bytes minus
to_placed size first count place free sign signed r bytes minus f d = record {
  low = λ k lt. subst (λ n. get_or bytes (n + k) 0 % 16 < 10) f.first_is (d.low k (omega (arith, f.count_is)));
  zones = λ k lt other. subst (λ n. get_or bytes (n + k) 0 / 16 ≡ 15) f.first_is (d.zones k (omega (arith, f.count_is)) (λ e. other (omega (arith, f.first_is, f.free_is))));
  said = sym (ap (λ s. byte_meaning s r.signed (get_or bytes r.digits.place 0)) f.sign_is ∙ ap (λ b. byte_meaning sign b (get_or bytes r.digits.place 0)) f.signed_is ∙ ap (λ p. byte_meaning sign signed (get_or bytes p 0)) f.place_is) ∙ d.sign;
}

from_placed : (size first count place free : ℕ) (sign : SignByte) (signed : Bool) (r : DigitReader) (bytes : List ℕ) (minus : Bool) → ReadsDigits size first count place free sign signed r
    → ArePlaced first count place free sign signed bytes minus → AreSignedDigitBytes r bytes minus
from_placed size first count place free sign signed r bytes minus f p = record {
  low = λ k lt. subst (λ n. get_or bytes (n + k) 0 % 16 < 10) (sym f.first_is) (p.low k (omega (arith, f.count_is)));
  zones = λ k lt other. subst (λ n. get_or bytes (n + k) 0 / 16 ≡ 15) (sym f.first_is) (p.zones k (omega (arith, f.count_is)) (λ e. other (omega (arith, f.first_is, f.free_is))));
  sign = ap (λ s. byte_meaning s r.signed (get_or bytes r.digits.place 0)) f.sign_is ∙ ap (λ b. byte_meaning sign b (get_or bytes r.digits.place 0)) f.signed_is ∙ ap (λ q. byte_meaning sign signed (get_or bytes q 0)) f.place_is ∙ p.said;
}

same_digits : (size first count place free : ℕ) (sign : SignByte) (signed : Bool) (r : DigitReader) (bytes : List ℕ) → ReadsDigits size first count place free sign signed r
    → digits_from r.digits.first r.digits.count bytes ≡ digits_from first count bytes
same_digits size first count place free sign signed r bytes f = ap (λ n. digits_from n r.digits.count bytes) f.first_is ∙ ap (λ n. digits_from first n bytes) f.count_is

-- what it is to read, in these words
reader_of : (represents : List ℕ → Bool → List ℕ → Type 0) (size first count place free : ℕ) (sign : SignByte) (signed : Bool) (r : DigitReader) → ReadsDigits size first count place free sign signed r
    → ((bytes : List ℕ) (minus negative : Bool) → length bytes ≡ size → ArePlaced first count place free sign signed bytes minus → IsDigits (digits_from first count bytes) → IsSigned minus (digits_from first count bytes) negative
    → represents bytes negative (digits_from first count bytes))
    → ((bytes : List ℕ) (negative : Bool) (digits : List ℕ) → length bytes ≡ size → represents bytes negative digits → (minus : Bool) × ArePlaced first count place free sign signed bytes minus)
    → IsDigitReaderOf represents size r
reader_of represents size first count place free sign signed r f reads passes = record {
  bytes = f.size_is;
  reads = λ bytes minus negative long d valid is.
      let same : digits_from r.digits.first r.digits.count bytes ≡ digits_from first count bytes = same_digits size first count place free sign signed r bytes f in
      subst (λ ds. represents bytes negative ds) (sym same)
      (reads bytes minus negative long (to_placed size first count place free sign signed r bytes minus f d) (subst IsDigits same valid) (subst (λ ds. IsSigned minus ds negative) same is));
  passes = λ bytes negative digits long there. (let p = passes bytes negative digits long there in (p.0, from_placed size first count place free sign signed r bytes p.0 f p.1));
}

all_taken : (count : ℕ) (bytes : List ℕ) → length bytes ≡ count → digits_from 0 count bytes ≡ map low_digit bytes
all_taken count bytes long = ap (map low_digit) (take_all count bytes (omega arith))

-- ---- zoned items

pub reads_zoned : (count : ℕ) (signed leading : Bool) (r : DigitReader) → ReadsDigits count 0 count (sign_place signed leading count) (sign_place signed leading count) Zone signed r → IsDigitReaderOf (IsZoned count signed leading) count r
reads_zoned count signed leading r f =
    let place : ℕ = sign_place signed leading count in
    reader_of (IsZoned count signed leading) count 0 count place place Zone signed r f
    (λ bytes minus negative long p valid is. record {
      long = long;
      low_halves = all_taken count bytes long;
      valid = valid;
      zones = λ k lt other. ap (λ n. get_or bytes n 0 / 16) (sym (bare k)) ∙ p.zones k lt (λ e. other (sym (bare k) ∙ e));
      minus = minus;
      meaning = p.said;
      sign = is;
    })
    (λ bytes negative digits long z. (
      z.minus,
      record {
        low = λ k lt. subst (λ n. get_or bytes n 0 % 16 < 10) (sym (bare k)) (zoned_digit count signed leading bytes negative digits k z (omega arith));
        zones = λ k lt other. ap (λ n. get_or bytes n 0 / 16) (bare k) ∙ z.zones k lt (λ e. other (bare k ∙ e));
        said = z.meaning;
      },
    ))

-- the same, where the number of digits is another's
pub zoned_digits : (n count : ℕ) (signed leading : Bool) (r : DigitReader) → n ≡ count → ReadsDigits n 0 n (sign_place signed leading n) (sign_place signed leading n) Zone signed r → IsDigitReaderOf (IsZoned count signed leading) count r
zoned_digits n count signed leading r e f = subst (λ k. IsDigitReaderOf (IsZoned k signed leading) k r) e (reads_zoned n signed leading r f)

-- ---- numerals

plain_meaning : (byte : ℕ) → byte / 16 ≡ 15 → byte_meaning Zone false byte ≡ Some false
plain_meaning byte zone = ap (sign_meaning false) zone

plain_sign : (byte : ℕ) (minus : Bool) → byte / 16 ≡ 15 → byte_meaning Zone false byte ≡ Some minus → minus ≡ false
plain_sign byte minus zone said = go minus (sym (plain_meaning byte zone) ∙ said)
  where
    go : (m : Bool) → Some false ≡ Some m → m ≡ false
    go false e = refl
    go true e = absurd (cc)

never_minus : (n : ℕ) (digits : List ℕ) (negative minus : Bool) → minus ≡ false → IsSigned minus digits negative → negative ≡ false
never_minus n digits false minus none is = refl
never_minus n digits true minus none is = sym (sym none ∙ (is.0 refl).0)

pub reads_numerals : (count : ℕ) (r : DigitReader) → 0 < count → ReadsDigits count 0 count (count - 1) count Zone false r → IsDigitReaderOf (AreNumeralsOf count) count r
reads_numerals count r some f =
    reader_of (AreNumeralsOf count) count 0 count (count - 1) count Zone false r f
    (λ bytes minus negative long p valid is. record {
      long = long;
      zones = λ k lt. ap (λ n. get_or bytes n 0 / 16) (sym (bare k)) ∙ p.zones k lt (λ e. absurd (omega arith));
      low_halves = all_taken count bytes long;
      valid = valid;
      plus = never_minus count (digits_from 0 count bytes) negative minus (plain_sign (get_or bytes (count - 1) 0) minus (ap (λ n. get_or bytes n 0 / 16) (sym (bare (count - 1))) ∙ p.zones (count - 1) (omega arith) (λ e. absurd (omega arith))) p.said) is;
    })
    (λ bytes negative digits long z. (
      false,
      record {
        low = λ k lt.
            let inside : k < length bytes = omega arith in
            let same : get_or digits k 0 ≡ get_or bytes k 0 % 16 = ap (λ xs. get_or xs k 0) z.low_halves ∙ get_or-map low_digit bytes k 0 0 inside in
            let many : length digits ≡ length bytes = ap length z.low_halves ∙ length-map bytes low_digit in
            let there : get_or bytes k 0 % 16 < 10 = omega (arith, same, digit_small digits k z.valid (omega arith)) in
            subst (λ n. get_or bytes n 0 % 16 < 10) (sym (bare k)) there;
        zones = λ k lt other. ap (λ n. get_or bytes n 0 / 16) (bare k) ∙ z.zones k lt;
        said = plain_meaning (get_or bytes (count - 1) 0) (z.zones (count - 1) (omega arith));
      },
    ))

-- the same, where the number of digits is another's
pub numeral_digits : (n count : ℕ) (r : DigitReader) → n ≡ count → 0 < n → ReadsDigits n 0 n (n - 1) n Zone false r → IsDigitReaderOf (AreNumeralsOf count) count r
numeral_digits n count r e some f = subst (λ k. IsDigitReaderOf (AreNumeralsOf k) k r) e (reads_numerals n r some f)

-- ---- items with a separate sign

-- the bytes are the sign's and the digits'
bytes_are : (leading : Bool) (count : ℕ) (bytes : List ℕ) → length bytes ≡ count + 1
    → bytes ≡ cond leading (get_or bytes (own_sign_byte leading count) 0 ∷ take count (drop (first_byte leading) bytes)) (take count (drop (first_byte leading) bytes) ++ get_or bytes (own_sign_byte leading count) 0 ∷ [])
bytes_are true count bytes long =
    let few : length (drop 1 bytes) ≤ count = omega (arith, length-drop 1 bytes) in
    drop_more bytes 0 0 (omega arith) ∙ sym (ap (λ xs. get_or bytes 0 0 ∷ xs) (take_all count (drop 1 bytes) few))
bytes_are false count bytes long = all_but_last bytes count long

pub digit_in_form : (leading minus : Bool) (count k : ℕ) (ds : List ℕ) → length ds ≡ count → k < count → get_or (separate_form leading minus ds) (first_byte leading + k) 0 ≡ 240 + get_or ds k 0
digit_in_form true minus count k ds many lt =
    let inside : k < length ds = omega arith in
    let next : 1 + k ≡ suc k = omega arith in
    ap (λ n. get_or (sign_byte minus ∷ digit_bytes ds) n 0) next ∙ get_or-map (λ d. 240 + d) ds k 0 0 inside
digit_in_form false minus count k ds many lt =
    let inside : k < length ds = omega arith in
    let size : length (digit_bytes ds) ≡ count = length-map ds (λ d. 240 + d) ∙ many in
    let place : 0 + k ≡ k = omega arith in
    ap (λ n. get_or (digit_bytes ds ++ sign_byte minus ∷ []) n 0) place ∙ get_or_append_left (digit_bytes ds) (sign_byte minus ∷ []) 0 k (omega arith) ∙ get_or-map (λ d. 240 + d) ds k 0 0 inside

pub sign_in_form : (leading minus : Bool) (count : ℕ) (ds : List ℕ) → length ds ≡ count → get_or (separate_form leading minus ds) (own_sign_byte leading count) 0 ≡ sign_byte minus
sign_in_form true minus count ds many = refl
sign_in_form false minus count ds many = get_or_at (digit_bytes ds) (sign_byte minus) [] 0 count (length-map ds (λ d. 240 + d) ∙ many)

first_within : (leading : Bool) (count : ℕ) → first_byte leading + count ≤ count + 1
first_within true count = omega arith
first_within false count = omega arith

pub reads_separate : (count : ℕ) (leading : Bool) (r : DigitReader) → ReadsDigits (count + 1) (first_byte leading) count (own_sign_byte leading count) (count + 1) Own true r → IsDigitReaderOf (IsSignedSeparately count leading) (count + 1) r
reads_separate count leading r f =
    let first : ℕ = first_byte leading in
    let place : ℕ = own_sign_byte leading count in
    reader_of (IsSignedSeparately count leading) (count + 1) first count place (count + 1) Own true r f
    (λ bytes minus negative long p valid is.
    let part : List ℕ = take count (drop first bytes) in
    let within : first + count ≤ count + 1 = first_within leading count in
    let part_long : length part ≡ count = length-take-le count (drop first bytes) (omega (arith, length-drop first bytes)) in
    let zones : (k : ℕ) → k < length part → get_or part k 0 / 16 ≡ 15 = λ k lt.
    let inside : k < count = omega arith in
    ap (λ b. b / 16) (get_or-take count (drop first bytes) k 0 inside ∙ get_or-drop first bytes k 0) ∙ p.zones k inside (λ e. absurd (omega arith)) in
    let sign : get_or bytes place 0 ≡ sign_byte minus = own_is (get_or bytes place 0) minus p.said in
    record {
      count_is = length-map part low_digit ∙ part_long;
      valid = valid;
      minus = minus;
      text = bytes_are leading count bytes long ∙ ap (λ s. cond leading (s ∷ part) (part ++ s ∷ [])) sign
          ∙ ap (λ xs. cond leading (sign_byte minus ∷ xs) (xs ++ sign_byte minus ∷ [])) (digits_back part zones);
      sign = is;
    })
    (λ bytes negative digits long z.
    let within : first + count ≤ count + 1 = first_within leading count in
    let byte : (k : ℕ) → k < count → get_or bytes (first + k) 0 ≡ 240 + get_or digits k 0 = λ k lt. ap (λ xs. get_or xs (first + k) 0) z.text ∙ digit_in_form leading z.minus count k digits z.count_is lt in (
      z.minus,
      record {
        low = λ k lt. omega (arith, byte k lt, digit_small digits k z.valid (omega (arith, z.count_is)));
        zones = λ k lt other. omega (arith, byte k lt, digit_small digits k z.valid (omega (arith, z.count_is)));
        said = ap own_meaning (ap (λ xs. get_or xs place 0) z.text ∙ sign_in_form leading z.minus count digits z.count_is) ∙ own_of z.minus;
      },
    ))

-- the same, where the number of digits is another's
pub separate_digits : (n count : ℕ) (leading : Bool) (r : DigitReader) → n ≡ count → ReadsDigits (n + 1) (first_byte leading) n (own_sign_byte leading n) (n + 1) Own true r → IsDigitReaderOf (IsSignedSeparately count leading) (count + 1) r
separate_digits n count leading r e f = subst (λ k. IsDigitReaderOf (IsSignedSeparately k leading) (k + 1) r) e (reads_separate n leading r f)
