-- Numbers that are not below zero, as a few steps tell them.
use Rattle.std.proofs.Common.{◌≡◌, ℕ, ◌+◌, ◌*◌, ◌/◌, ◌%◌, ◌^◌, ◌<◌, ◌≤◌, List, [], ◌∷◌, ◌++◌, length, map, get_or, take, refl, sym, ap, ◌∙◌, arith, zero, suc, Bool, true, false, Option, Some, None, append_assoc}
use Rattle.std.specs.Prelude.{pos, replicate, IfSome}
use Rattle.std.proofs.Math.Nat.{pow-le-pow_right}
use Rattle.std.proofs.lemmas.List.{take_more, length_push, map-append, length-map, get_or-map, length-take-le}
use Rattle.byteorder.specs.Endian.{big_number, twos_complement}
use Rattle.cob_decimal.specs.Decimal.{IsDigits, number_of}
use Rattle.cob_decimal.proofs.DecimalLemmas.{number_of-push, number_of-lt, IsDigits-push, ten_more}
use Rattle.cob_codec.specs.Naturals.{IsNaturalOf}
use Rattle.cob_codec.specs.Sign.{sign_meaning, sign_place}
use Rattle.cob_codec.specs.Packed.{halves, pad_count, IsPacked, IsEnded}
use Rattle.cob_codec.specs.Zoned.{zone_of, low_digit, digit_bytes, IsZoned}
use Rattle.cob_codec.specs.Binary.{binary_length, binary_number, IsBinary}
use Rattle.cob_codec.proofs.SignLemmas.{digit_small, held_sign}
use Rattle.cob_codec.proofs.PackedLaws.{length-halves, packed_from}
use Rattle.cob_codec.proofs.PackedLemmas.{more_halves}
use Rattle.cob_codec.proofs.ZonedLaws.{place_within, high_half, low_halves}
use Rattle.cob_codec.proofs.BinaryLaws.{Width, half_of, width, fits_half, twos_number}

-- ---- digits in zone F

-- bytes that are digits in zone F, and the number of these digits
abbrev pub IsTextOf : List ℕ → ℕ → Type 0
IsTextOf bytes v = (digits : List ℕ) × IsDigits digits × (bytes ≡ digit_bytes digits) × (v ≡ number_of digits)

more_bytes : (bytes ds : List ℕ) (i d : ℕ) → i < length bytes → take i bytes ≡ digit_bytes ds → get_or bytes i 0 ≡ 240 + d → take (i + 1) bytes ≡ digit_bytes (ds ++ d ∷ [])
more_bytes bytes ds i d lt e at =
    take_more bytes i 0 lt ∙ ap (λ xs. xs ++ get_or bytes i 0 ∷ []) e ∙ ap (λ b. digit_bytes ds ++ b ∷ []) at ∙ sym (map-append (λ d. 240 + d) ds (d ∷ []))

-- one byte further
pub more_text : (bytes : List ℕ) (i d v : ℕ) → i < length bytes → get_or bytes i 0 ≡ 240 + d → d < 10 → IsTextOf (take i bytes) v → IsTextOf (take (i + 1) bytes) (v * 10 + d)
more_text bytes i d v lt at small h =
    (h.0 ++ d ∷ [], IsDigits-push h.0 d h.1 small, more_bytes bytes h.0 i d lt h.2 at, ap (λ n. n * 10 + d) h.3 ∙ sym (number_of-push h.0 d))

-- a number of few digits has room for one more
pub room : (bytes : List ℕ) (i v : ℕ) → i < 9 → i ≤ length bytes → IsTextOf (take i bytes) v → v < 10 ^ 8
room bytes i v few within h =
    let long : length h.0 ≡ i = sym (length-map h.0 (λ d. 240 + d)) ∙ sym (ap length h.2) ∙ length-take-le i bytes within in
    let lt : number_of h.0 < 10 ^ i = rw (← long) (number_of-lt h.0 h.1) in
    let eight : i ≤ 8 = omega arith in
    let most : 10 ^ i ≤ 10 ^ 8 = pow-le-pow_right (omega arith) eight in
    omega (arith, h.3)

-- digits in zone F are a zoned item's, which is plus wherever its sign stands
pub text_is_zoned : (count : ℕ) (signed leading : Bool) (bytes ds : List ℕ) → 0 < count → length bytes ≡ count → IsDigits ds → bytes ≡ digit_bytes ds → IsZoned count signed leading bytes false ds
text_is_zoned count signed leading bytes ds some long valid text =
    let many : length ds ≡ count = sym (length-map ds (λ d. 240 + d)) ∙ sym (ap length text) ∙ long in
    let zone : (k : ℕ) → k < count → zone_of (get_or bytes k 0) ≡ 15 = λ k lt.
    let within : k < length ds = omega (arith, many) in
    ap (λ xs. zone_of (get_or xs k 0)) text ∙ ap zone_of (get_or-map (λ d. 240 + d) ds k 0 0 within) ∙ high_half (get_or ds k 0) (digit_small ds k valid within) in
    record {
      long = long;
      low_halves = sym (ap (map low_digit) text ∙ low_halves ds valid);
      valid = valid;
      zones = λ k lt other. zone k lt;
      minus = false;
      meaning = ap (sign_meaning signed) (zone (sign_place signed leading count) (place_within signed leading count some));
      sign = held_sign false ds (λ h. absurd (cc));
    }

-- digits in zone F are a number of zoned bytes
pub text_natural : (bytes : List ℕ) (r : Option ℕ) → 0 < length bytes → IfSome r (λ v. IsTextOf bytes v)
    → IfSome r (λ v. (count : ℕ) (signed leading : Bool) → length bytes ≡ count → IsNaturalOf (IsZoned count signed leading) bytes v)
text_natural bytes None some h = tt
text_natural bytes (Some v) some h = λ count signed leading long.
    (h.0, text_is_zoned count signed leading bytes h.0 (omega (arith, long)) long h.1 h.2, h.3)

-- ---- packed digits

-- half bytes that are all digits, and the number of these digits
abbrev pub IsNumberOfHalves : List ℕ → ℕ → Type 0
IsNumberOfHalves bytes v = IsDigits (halves bytes) × (v ≡ number_of (halves bytes))

-- one byte further
pub more_of_halves : (bytes : List ℕ) (i v : ℕ) → i < length bytes → get_or bytes i 0 / 16 ≤ 9 → get_or bytes i 0 % 16 ≤ 9 → IsNumberOfHalves (take i bytes) v
    → IsNumberOfHalves (take (i + 1) bytes) (v * 100 + get_or bytes i 0 / 16 * 10 + get_or bytes i 0 % 16)
more_of_halves bytes i v lt high low (valid, is) =
    let front : List ℕ = halves (take i bytes) in
    let h : ℕ = get_or bytes i 0 / 16 in
    let l : ℕ = get_or bytes i 0 % 16 in
    let (text, more) = more_halves bytes i valid lt high low in
    let two : number_of ((front ++ h ∷ []) ++ l ∷ []) ≡ (number_of front * 10 + h) * 10 + l = number_of-push (front ++ h ∷ []) l ∙ ap (λ n. n * 10 + l) (number_of-push front h) in
    let all : number_of (halves (take (i + 1) bytes)) ≡ (number_of front * 10 + h) * 10 + l = ap number_of (text ∙ sym (append_assoc front (h ∷ []) (l ∷ []))) ∙ two in
    (more, omega (arith, is, all))

-- few bytes have a number with room for more digits
pub few_halves : (bytes : List ℕ) (n v : ℕ) → length bytes ≤ n → IsNumberOfHalves bytes v → v < 10 ^ (2 * n)
few_halves bytes n v few (valid, is) =
    let long : length (halves bytes) ≡ 2 * length bytes = length-halves bytes in
    let most : 10 ^ length (halves bytes) ≤ 10 ^ (2 * n) = pow-le-pow_right (omega arith) (omega (arith, long, few)) in
    omega (arith, is, number_of-lt (halves bytes) valid, most)

-- the half bytes before the last byte are the digits before the last, behind a zero where these are odd in number
record Padded (count : ℕ) (front : List ℕ) : Type 0 where
  digits : List ℕ
  text : halves front ≡ replicate (pad_count count) 0 ++ digits
  valid : IsDigits digits
  value : number_of digits ≡ number_of (halves front)

unpadded : (count : ℕ) (front : List ℕ) → count % 2 ≡ 1 → IsDigits (halves front) → Padded count front
unpadded count front odd valid =
    let pad : pad_count count ≡ 0 = omega (arith, odd) in
    record { digits = halves front; text = sym (ap (λ (n : ℕ). replicate n 0 ++ halves front) pad); valid = valid; value = refl }

padded_once : (count : ℕ) (front : List ℕ) → count % 2 ≡ 0 → 0 < length front → get_or front 0 0 ≤ 9 → IsDigits (halves front) → Padded count front
padded_once count [] even some small valid = absurd (omega arith)
padded_once count (b ∷ bs) even some small valid =
    let pad : pad_count count ≡ 1 = omega (arith, even) in
    let none : b / 16 ≡ 0 = omega (arith, small) in
    let ds : List ℕ = b % 16 ∷ halves bs in
    let same : 0 * 10 ^ length ds + number_of ds ≡ number_of ds = omega arith in record {
      digits = ds;
      text = ap (λ (d : ℕ). d ∷ ds) none ∙ sym (ap (λ (n : ℕ). replicate n 0 ++ ds) pad);
      valid = valid.1;
      value = sym (ap (λ (d : ℕ). d * 10 ^ length ds + number_of ds) none ∙ same);
    }

padded : (count : ℕ) (front : List ℕ) → 0 < count → length front ≡ count / 2 → (count % 2 ≡ 0 → get_or front 0 0 ≤ 9) → IsDigits (halves front) → Padded count front
padded count front some long small valid = by (count % 2) refl
  where
    by : (n : ℕ) → count % 2 ≡ n → Padded count front
    by zero even = padded_once count front even (omega (arith, some, long, even)) (small even) valid
    by (suc n) odd = unpadded count front (omega (arith, odd)) valid

-- digits with a plus behind them are a number of packed bytes
pub packed_natural : (count : ℕ) (signed : Bool) (bytes front : List ℕ) (last v : ℕ) → 0 < count → bytes ≡ front ++ last ∷ [] → length front ≡ count / 2 → (count % 2 ≡ 0 → get_or front 0 0 ≤ 9) → IsNumberOfHalves front v
    → last / 16 ≤ 9 → sign_meaning signed (last % 16) ≡ Some false → IsNaturalOf (IsPacked count signed) bytes (v * 10 + last / 16)
packed_natural count signed bytes front last v some whole long small (valid, is) digit plus =
    let p : Padded count front = padded count front some long small valid in
    let ds : List ℕ = p.digits ++ last / 16 ∷ [] in
    let ended : IsEnded signed p.digits last false ds = record { digits_are = refl; digit = omega (arith, digit); minus = false; meaning = plus; sign = held_sign false ds (λ h. absurd (cc)) } in
    (ds, packed_from count signed bytes front last p.digits false ds some whole long p.text p.valid ended, omega (arith, is, p.value, number_of-push p.digits (last / 16)))

-- ---- binary numbers

-- a number below a power of ten has so many digits
pub has_digits : (n v : ℕ) → v < 10 ^ n → (digits : List ℕ) × IsDigits digits × (length digits ≡ n) × (number_of digits ≡ v)
has_digits zero v lt = ([], tt, refl, omega arith)
has_digits (suc n) v lt =
    let more : 10 ^ suc n ≡ 10 ^ n * 10 = ap (λ k. 10 ^ k) (omega arith) ∙ ten_more n in
    let front = has_digits n (v / 10) (omega (arith, more)) in
    let last : v % 10 < 10 = omega arith in (
      front.0 ++ v % 10 ∷ [],
      IsDigits-push front.0 (v % 10) front.1 last,
      length_push front.0 (v % 10) ∙ omega (arith, front.2),
      number_of-push front.0 (v % 10) ∙ omega (arith, front.3),
    )

-- a number of the picture's digits is its bytes' number, signed or not
same_unsigned : (count : ℕ) (signed : Bool) (bytes : List ℕ) (v : ℕ) → count ≤ 18 → length bytes ≡ binary_length count → v ≡ big_number (length bytes) bytes → v < 10 ^ count
    → pos v ≡ binary_number signed bytes
same_unsigned count false bytes v few long is lt = ap pos is
same_unsigned count true bytes v few long is lt =
    let n : ℕ = binary_length count in
    let w : Width n (half_of count) = width count in
    sym (ap (λ k. twos_complement k (big_number (length bytes) bytes)) long
    ∙ ap (λ x. twos_complement n x) (sym is)
    ∙ twos_number n v (half_of count) w.low w.bits (fits_half count v few lt))

pub unsigned_is_binary : (count : ℕ) (signed : Bool) (bytes : List ℕ) (v : ℕ) → count ≤ 18 → length bytes ≡ binary_length count → v ≡ big_number (length bytes) bytes → v < 10 ^ count
    → (digits : List ℕ) × IsBinary count signed bytes false digits × (v ≡ number_of digits)
unsigned_is_binary count signed bytes v few long is lt =
    let d = has_digits count v lt in (
      d.0,
      record {
        long = long;
        count_is = d.2;
        valid = d.1;
        nonzero = λ h. absurd (cc);
        value = ap pos d.3 ∙ same_unsigned count signed bytes v few long is lt;
      },
      sym d.3,
    )
