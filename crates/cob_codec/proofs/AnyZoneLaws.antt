-- The laws of numbers read by any zones, proved.
use Rattle.std.proofs.Common.{◌≡◌, ℕ, ◌+◌, ◌/◌, ◌%◌, ◌<◌, ◌==◌, ◌||◌, ◌&&◌, if◌then◌else◌, List, [], ◌∷◌, ◌++◌, length, map, get_or, refl, sym, ap, ◌∙◌, arith, suc, zero, append_assoc, Bool, true, false, IsTrue, Some, None, inl, inr}
use Rattle.std.specs.Prelude.{replicate}
use Rattle.std.proofs.lemmas.Bool.Decides.{nat_tests}
use Rattle.std.proofs.lemmas.List.{length-map, length-replicate, replicate-append-replicate, same_from_push}
use Rattle.cob_decimal.specs.Decimal.{IsDigits, number_of}
use Rattle.cob_codec.specs.Sign.{sign_meaning, sign_place, IsHeld, IsSigned}
use Rattle.cob_codec.specs.Zoned.{digit_bytes, low_digit, zone_of, IsZoned}
use Rattle.cob_codec.specs.Separate.{sign_byte, IsSignedSeparately}
use Rattle.cob_codec.specs.Packed.{halves, pad_count, IsPacked}
use Rattle.cob_codec.specs.AnyZones.{is_minus_zone, AreFilled, IsFilled, IsPackedByAnyZones, IsSeparateByAnyZones, IsZonedByAnyZones}
use Rattle.cob_codec.proofs.SignLemmas.{same_sign, same_some}
use Rattle.cob_codec.proofs.SeparateLaws.{heads, tails}
use Rattle.cob_codec.proofs.ZonedLaws.{low_halves}
use Rattle.cob_codec.proofs.PackedLaws as packed

-- a zone that is a plus is no minus
plus_zone : (code : ℕ) → (code == 0xA || code == 0xC || code == 0xE || code == 0xF) ≡ true → (code == 0xB || code == 0xD) ≡ false
plus_zone code plus = grind (arith, nat_tests)

no_minus : (signed : Bool) (code : ℕ) → (code == 0xA || code == 0xC || code == 0xE || code == 0xF) ≡ true → is_minus_zone signed code ≡ false
no_minus true code plus = plus_zone code plus
no_minus false code plus = refl

by_tests : (plus s minus : Bool) → (plus ≡ true → s ≡ false) → (if plus then Some false else (if s then Some true else None)) ≡ Some minus → s ≡ minus
by_tests true s minus other e = other refl ∙ same_some false minus e
by_tests false true minus other e = same_some true minus e
by_tests false false minus other e = absurd (cc)

-- what a sign's code says, its zone says
pub minus_zone : (signed : Bool) (code : ℕ) (minus : Bool) → sign_meaning signed code ≡ Some minus → is_minus_zone signed code ≡ minus
minus_zone signed code minus meaning =
    by_tests (code == 0xA || code == 0xC || code == 0xE || code == 0xF) (is_minus_zone signed code) minus (no_minus signed code) meaning

pub signed_by : (a b : Bool) (ds : List ℕ) (negative : Bool) → a ≡ b → IsSigned b ds negative → IsSigned a ds negative
signed_by a b ds negative same sign = rw same sign

pub zoned_is_any : (count : ℕ) (signed leading : Bool) (bytes : List ℕ) (negative : Bool) (ds : List ℕ) → IsZoned count signed leading bytes negative ds
    → IsZonedByAnyZones count signed leading bytes negative ds
zoned_is_any count signed leading bytes negative ds p =
    let code : ℕ = zone_of (get_or bytes (sign_place signed leading count) 0) in
    record {
      long = p.long;
      low_halves = p.low_halves;
      valid = p.valid;
      sign = signed_by (is_minus_zone signed code) p.minus ds negative (minus_zone signed code p.minus p.meaning) p.sign;
    }

minus_byte_is : (minus : Bool) → (sign_byte minus == 0x60) ≡ minus
minus_byte_is true = refl
minus_byte_is false = refl

pub separate_is_any : (count : ℕ) (leading : Bool) (bytes : List ℕ) (negative : Bool) (ds : List ℕ) → IsSignedSeparately count leading bytes negative ds
    → IsSeparateByAnyZones count leading bytes negative ds
separate_is_any count leading bytes negative ds p = record {
  sign = sign_byte p.minus;
  text = digit_bytes ds;
  parts = p.text;
  long = length-map ds (λ d. 240 + d) ∙ p.count_is;
  low_halves = sym (low_halves ds p.valid);
  valid = p.valid;
  signed = signed_by (sign_byte p.minus == 0x60) p.minus ds negative (minus_byte_is p.minus) p.sign;
}

pub packed_is_any : (count : ℕ) (signed : Bool) (bytes : List ℕ) (negative : Bool) (ds : List ℕ) → IsPacked count signed bytes negative ds
    → IsPackedByAnyZones count signed bytes negative ds
packed_is_any count signed bytes negative ds p = inl p

pub one_zoned : (count : ℕ) (signed leading : Bool) (bytes : List ℕ) (a b : Bool) (ds es : List ℕ) → IsZonedByAnyZones count signed leading bytes a ds
    → IsZonedByAnyZones count signed leading bytes b es → (a ≡ b) × (ds ≡ es)
one_zoned count signed leading bytes a b ds es p q =
    let digits : ds ≡ es = p.low_halves ∙ sym q.low_halves in
    (same_sign a b (is_minus_zone signed (zone_of (get_or bytes (sign_place signed leading count) 0))) (0 < number_of es) (rw (← digits) p.sign) q.sign, digits)

-- the sign's byte and those of the digits are those of one item
same_parts : (leading : Bool) (s t : ℕ) (xs ys : List ℕ) → (if leading then s ∷ xs else xs ++ s ∷ []) ≡ (if leading then t ∷ ys else ys ++ t ∷ []) → (s ≡ t) × (xs ≡ ys)
same_parts true s t xs ys e = (heads s t xs ys e, tails s t xs ys e)
same_parts false s t xs ys e = let both = same_from_push xs ys s t e in (both.1, both.0)

pub one_separate : (count : ℕ) (leading : Bool) (bytes : List ℕ) (a b : Bool) (ds es : List ℕ) → IsSeparateByAnyZones count leading bytes a ds
    → IsSeparateByAnyZones count leading bytes b es → (a ≡ b) × (ds ≡ es)
one_separate count leading bytes a b ds es p q =
    let same = same_parts leading p.sign q.sign p.text q.text (sym p.parts ∙ q.parts) in
    let digits : ds ≡ es = p.low_halves ∙ ap (map low_digit) same.1 ∙ sym q.low_halves in
    let sign : p.sign ≡ q.sign = same.0 in
    (same_sign a b (q.sign == 0x60) (0 < number_of es) (rw (← digits, ← sign) p.signed) q.signed, digits)

-- the last half byte of a packed item is the low half of its last byte
last_half : (xs : List ℕ) (b : ℕ) (front : List ℕ) (code : ℕ) → halves (xs ++ b ∷ []) ≡ front ++ code ∷ [] → b % 16 ≡ code
last_half xs b front code e =
    (same_from_push (halves xs ++ b / 16 ∷ []) front (b % 16) code (append_assoc (halves xs) (b / 16 ∷ []) (b % 16 ∷ []) ∙ sym (packed.halves-push xs b) ∙ e)).1

no_sign : (signed : Bool) (code : ℕ) (minus : Bool) → code ≡ 0 → sign_meaning signed code ≡ Some minus → ⊥
no_sign signed code minus none meaning = plain signed minus (ap (sign_meaning signed) (sym none) ∙ meaning)
  where
    plain : (signed minus : Bool) → sign_meaning signed 0 ≡ Some minus → ⊥
    plain true minus e = cc
    plain false minus e = cc

filled_half : (fill : ℕ) → fill % 16 ≡ 0 → (count : ℕ) (signed : Bool) (bytes : List ℕ) (negative : Bool) (ds : List ℕ) → length bytes ≡ count / 2 + 1
    → bytes ≡ replicate (length bytes) fill → IsPacked count signed bytes negative ds → ⊥
filled_half fill low count signed bytes negative ds long all p =
    let pushed : bytes ≡ replicate (count / 2) fill ++ fill ∷ [] = all ∙ ap (λ n. replicate n fill) long ∙ sym (replicate-append-replicate (count / 2) 1 fill) in
    let text : halves (replicate (count / 2) fill ++ fill ∷ []) ≡ (replicate (pad_count count) 0 ++ ds) ++ p.code ∷ [] =
    ap halves (sym pushed) ∙ p.text ∙ sym (append_assoc (replicate (pad_count count) 0) ds (p.code ∷ [])) in
    no_sign signed p.code p.minus (sym (last_half (replicate (count / 2) fill) fill (replicate (pad_count count) 0 ++ ds) p.code text) ∙ low) p.meaning

-- bytes that are filled are not packed
pub not_both : (count : ℕ) (signed : Bool) (bytes : List ℕ) (a b : Bool) (ds es : List ℕ) → IsFilled count bytes a ds → IsPacked count signed bytes b es → ⊥
not_both count signed bytes a b ds es f p = by_fill f.filled
  where
    by_fill : AreFilled bytes → ⊥
    by_fill (inl spaces) = filled_half 0x40 refl count signed bytes b es f.long spaces p
    by_fill (inr nothing) = filled_half 0 refl count signed bytes b es f.long nothing p

pub one_packed : (count : ℕ) (signed : Bool) (bytes : List ℕ) (a b : Bool) (ds es : List ℕ) → IsPackedByAnyZones count signed bytes a ds
    → IsPackedByAnyZones count signed bytes b es → (a ≡ b) × (ds ≡ es)
one_packed count signed bytes a b ds es (inl p) (inl q) = packed.one_number count signed bytes a b ds es p q
one_packed count signed bytes a b ds es (inl p) (inr q) = absurd (not_both count signed bytes b a es ds q p)
one_packed count signed bytes a b ds es (inr p) (inl q) = absurd (not_both count signed bytes a b ds es p q)
one_packed count signed bytes a b ds es (inr p) (inr q) = (p.plus ∙ sym q.plus, p.zeros ∙ sym q.zeros)

minus_signed : (signed minus : Bool) → IsTrue (signed && minus) → IsTrue signed
minus_signed true minus h = refl
minus_signed false minus h = h

pub held_zoned : (count : ℕ) (signed leading : Bool) (bytes : List ℕ) (negative : Bool) (ds : List ℕ) → IsZonedByAnyZones count signed leading bytes negative ds
    → IsHeld count signed negative ds
held_zoned count signed leading bytes negative ds p =
    let code : ℕ = zone_of (get_or bytes (sign_place signed leading count) 0) in
    record {
      count_is = ap length p.low_halves ∙ length-map bytes low_digit ∙ p.long;
      valid = p.valid;
      minus = λ h. minus_signed signed (code == 0xB || code == 0xD) (p.sign.0 h).0;
      nonzero = λ h. (p.sign.0 h).1;
    }

pub held_separate : (count : ℕ) (signed leading : Bool) (bytes : List ℕ) (negative : Bool) (ds : List ℕ) → IsTrue signed
    → IsSeparateByAnyZones count leading bytes negative ds → IsHeld count signed negative ds
held_separate count signed leading bytes negative ds is_signed p = record {
  count_is = ap length p.low_halves ∙ length-map p.text low_digit ∙ p.long;
  valid = p.valid;
  minus = λ h. is_signed;
  nonzero = λ h. (p.signed.0 h).1;
}

zeros_are_digits : (n : ℕ) → IsDigits (replicate n 0)
zeros_are_digits zero = tt
zeros_are_digits (suc n) = (omega arith, zeros_are_digits n)

not_negative : (negative : Bool) (P : Type 0) → negative ≡ false → IsTrue negative → P
not_negative true P plus h = absurd (cc)
not_negative false P plus h = absurd (cc)

pub held_packed : (count : ℕ) (signed : Bool) (bytes : List ℕ) (negative : Bool) (ds : List ℕ) → IsPackedByAnyZones count signed bytes negative ds
    → IsHeld count signed negative ds
held_packed count signed bytes negative ds (inl p) = packed.held_packed count signed bytes negative ds p
held_packed count signed bytes negative ds (inr p) = record {
  count_is = ap length p.zeros ∙ length-replicate count 0;
  valid = rw p.zeros (zeros_are_digits count);
  minus = not_negative negative (IsTrue signed) p.plus;
  nonzero = not_negative negative (0 < number_of ds) p.plus;
}
