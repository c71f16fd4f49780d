-- Lemmas on zoned decimal.
use Rattle.std.proofs.Common.{◌≡◌, ◌≢◌, ℕ, ◌+◌, ◌*◌, ◌/◌, ◌%◌, ◌<◌, List, [], ◌∷◌, length, map, get_or, refl, sym, ap, ◌∙◌, arith, Bool, true, false, get_or-set_other, get_or-set_same}
use Rattle.std.proofs.Math.ListN.{set, length-set}
use Rattle.std.proofs.lemmas.List.{length-map, map-set, set-get_or, get_or-map}
use Rattle.cob_decimal.specs.Decimal.{IsDigits}
use Rattle.cob_codec.specs.Sign.{sign_meaning, sign_code, sign_place, IsHeld}
use Rattle.cob_codec.specs.Zoned.{zone_of, low_digit, digit_bytes, IsZoned, zoned_form}
use Rattle.cob_codec.proofs.SignLemmas.{digit_small, code_meaning, one_sign, held, held_sign}

-- the sign's place is one of the bytes
pub place_within : (signed leading : Bool) (count : ℕ) → 0 < count → sign_place signed leading count < count
place_within true true count some = some
place_within true false count some = omega arith
place_within false leading count some = omega arith

-- each digit byte has its digit in the low half and F in the high half
pub low_half : (d : ℕ) → d < 10 → (240 + d) % 16 ≡ d
low_half d small = omega arith

pub high_half : (d : ℕ) → d < 10 → (240 + d) / 16 ≡ 15
high_half d small = omega arith

pub low_halves : (ds : List ℕ) → IsDigits ds → map low_digit (digit_bytes ds) ≡ ds
low_halves [] valid = refl
low_halves (d ∷ ds) valid = ap (λ x. x ∷ map low_digit (digit_bytes ds)) (low_half d valid.0) ∙ ap (λ xs. d ∷ xs) (low_halves ds valid.1)

sign_low : (code d : ℕ) → d < 10 → (code * 16 + d) % 16 ≡ d
sign_low code d small = omega arith

sign_high : (code d : ℕ) → d < 10 → (code * 16 + d) / 16 ≡ code
sign_high code d small = omega arith

-- the low half of each byte of a zoned item is a digit
pub zoned_digit : (count : ℕ) (signed leading : Bool) (bytes : List ℕ) (negative : Bool) (ds : List ℕ) (k : ℕ) → IsZoned count signed leading bytes negative ds → k < length bytes → get_or bytes k 0 % 16 < 10
zoned_digit count signed leading bytes negative ds k p lt =
    let here : get_or (map low_digit bytes) k 0 ≡ get_or bytes k 0 % 16 = get_or-map low_digit bytes k 0 0 lt in
    let same : get_or ds k 0 ≡ get_or bytes k 0 % 16 = ap (λ xs. get_or xs k 0) p.low_halves ∙ here in
    let many : length ds ≡ length bytes = ap length p.low_halves ∙ length-map bytes low_digit in
    let small : get_or ds k 0 < 10 = digit_small ds k p.valid (omega arith) in
    omega arith

pub stored_length : (signed leading negative : Bool) (ds : List ℕ) → length (zoned_form signed leading negative ds) ≡ length ds
stored_length signed leading negative ds = simp (length-set, length-map)

pub one_number : (count : ℕ) (signed leading : Bool) (bytes : List ℕ) (a b : Bool) (ds es : List ℕ) → IsZoned count signed leading bytes a ds → IsZoned count signed leading bytes b es → (a ≡ b) × (ds ≡ es)
one_number count signed leading bytes a b ds es p q =
    let digits : ds ≡ es = p.low_halves ∙ sym q.low_halves in
    let code : ℕ = zone_of (get_or bytes (sign_place signed leading count) 0) in
    (one_sign signed code code a b p.minus q.minus ds es refl digits p.meaning q.meaning p.sign q.sign, digits)

pub held_zoned : (count : ℕ) (signed leading : Bool) (bytes : List ℕ) (negative : Bool) (ds : List ℕ) → IsZoned count signed leading bytes negative ds → IsHeld count signed negative ds
held_zoned count signed leading bytes negative ds p =
    held count signed p.minus negative (zone_of (get_or bytes (sign_place signed leading count) 0)) ds (ap length p.low_halves ∙ length-map bytes low_digit ∙ p.long) p.valid p.meaning p.sign

-- what was stored reads back
pub reads_back : (count : ℕ) (signed leading negative : Bool) (ds : List ℕ) → 0 < count → IsHeld count signed negative ds → IsZoned count signed leading (zoned_form signed leading negative ds) negative ds
reads_back count signed leading negative ds some number =
    let place : ℕ = sign_place signed leading (length ds) in
    let code : ℕ = sign_code signed negative in
    let within : place < length ds = place_within signed leading (length ds) (omega arith) in
    let same : sign_place signed leading count ≡ place = ap (sign_place signed leading) (sym number.count_is) in
    let small : get_or ds place 0 < 10 = digit_small ds place number.valid within in
    let bytes : List ℕ = digit_bytes ds in
    let inside : place < length bytes = omega (arith, length-map ds (λ d. 240 + d)) in
    let sign : ℕ = code * 16 + get_or ds place 0 in
    let at : get_or (set bytes place sign) place 0 ≡ sign = get_or-set_same bytes place sign 0 inside in
    record {
      long = stored_length signed leading negative ds ∙ number.count_is;
      low_halves = sym (map-set low_digit bytes place sign ∙ ap (λ xs. set xs place (low_digit sign)) (low_halves ds number.valid) ∙ ap (λ d. set ds place d) (sign_low code (get_or ds place 0) small) ∙ set-get_or ds place 0);
      valid = number.valid;
      zones = λ k lt other.
          let apart : k ≢ place = λ e. other (e ∙ sym same) in
          let lt' : k < length ds = omega arith in
          ap zone_of (get_or-set_other bytes place k sign 0 apart ∙ get_or-map (λ d. 240 + d) ds k 0 0 lt') ∙ high_half (get_or ds k 0) (digit_small ds k number.valid lt');
      minus = negative;
      meaning = ap (λ k. sign_meaning signed (zone_of (get_or (set bytes place sign) k 0))) same ∙ ap (λ b. sign_meaning signed (zone_of b)) at ∙ ap (sign_meaning signed) (sign_high code (get_or ds place 0) small) ∙ code_meaning signed negative number.minus;
      sign = held_sign negative ds number.nonzero;
    }
