-- The number that an item gives.
use Rattle.std.proofs.Common.{◌≡◌, ◌&&◌, ℕ, zero, suc, ◌-◌, ◌/◌, ◌%◌, ◌<◌, ◌≤◌, ℤ, Bool, true, false, not, leb, List, [], ◌∷◌, length, map, get_or, MatchBool, refl, sym, ap, subst, ◌∙◌, inl, inr, arith, le-leb, leb-true}
use Rattle.std.proofs.lemmas.Bool.{and_parts}
use Rattle.cob_picture.specs.Counts.{scale}
use Rattle.cob_picture.specs.Positions.{shows_number}
use Rattle.cob_picture.specs.declared.category.Category.{Category}
use Rattle.cob_picture.specs.declared.category.Category.TheVariants.{Alphabetic, Numeric, Alphanumeric, AlphanumericEdited, NumericEdited}
use Rattle.cob_codec.specs.Zoned.{low_digit}
use Rattle.cob_codec.specs.declared.reading.Reading.{Reading}
use Rattle.cob_copybook_tree.specs.declared.node.Item.{Item}
use Rattle.cob_copybook_tree.specs.Resolving.{is_numeric, is_number}
use Rattle.cob_copybook_tree.specs.Items.{IsNumberItem, IsSentBy}
use Rattle.cob_copybook_tree.specs.Lengths.{item_size}
use Rattle.cob_decimal.specs.Decimal.{IsDigits}
use Rattle.cob_edit.specs.Pictured.{IsEdited}
use Rattle.cob_codec_lanes.specs.Readers.{AreNumeralsOf, AreRead}
use Rattle.cob_codec_lanes.specs.Words.{IsNumberRead}
use Rattle.cob_move_receive.specs.Sent.{Amount}
use Rattle.cob_move_receive.specs.Numbers.{AreNumerals, digits_of, is_numeral, GivesUnder, IsNumberIn, IsReadAs, IsUnedited, ItemGives}
use Rattle.cob_move_steps.specs.Ends.{GivesSigned, IsNumeralItem, SendsNumber}
use Rattle.cob_move_steps.specs.Texts.{IsPlainlyEdited}
use Rattle.cob_move_steps.proofs.StepLemmas.{from_match, match_true, number_item}

pub match_false : (b : Bool) (P Q : Type 0) → b ≡ false → Q → MatchBool b P Q
match_false b P Q e q = subst (λ x. MatchBool x P Q) (sym e) q

pub from_false : (b : Bool) (P Q : Type 0) → b ≡ false → MatchBool b P Q → Q
from_false b P Q e m = subst (λ x. MatchBool x P Q) e m

-- an amount at the scale of an item's picture
abbrev pub at_scale : Item → Bool → List ℕ → Amount
at_scale i negative ds = record { negative = negative; digits = ds; scale = scale i.picture.positions }

-- ---- numbers

pub number_gives : (reading : Reading) (i : Item) (bytes : List ℕ) (negative : Bool) (ds : List ℕ) → IsNumberItem i → IsSentBy reading i bytes negative ds → GivesSigned reading i bytes negative ds
number_gives reading i bytes negative ds n sent =
    match_true (is_number i) (IsNumberIn reading i bytes (at_scale i negative ds)) (GivesUnder i.picture.category i bytes (at_scale i negative ds)) (number_item i n) (record { represents = sent; point = refl })

pub number_sent : (reading : Reading) (i : Item) (bytes : List ℕ) (v : Amount) → IsNumberItem i → ItemGives reading i bytes v → IsSentBy reading i bytes v.negative v.digits
number_sent reading i bytes v n gives =
    let number : IsNumberIn reading i bytes v = from_match (is_number i) (IsNumberIn reading i bytes v) (GivesUnder i.picture.category i bytes v) (number_item i n) gives in
    number.represents

-- what was read of a number is what it gives
pub number_given : (reading : Reading) (i : Item) (bytes kept : List ℕ) (wanted : ℕ) (shift : ℤ) (told minus : Bool) → IsNumberItem i → IsNumberRead (IsSentBy reading i bytes) wanted shift told minus kept
    → IsNumberRead (GivesSigned reading i bytes) wanted shift told minus kept
number_given reading i bytes kept wanted shift told minus n read = record {
  number = λ e.
      let a : AreRead (IsSentBy reading i bytes) wanted shift minus kept = read.number e in
      record {
        negative = a.negative;
        digits = a.digits;
        represented = number_gives reading i bytes a.negative a.digits n a.represented;
        valid = a.valid;
        sign = a.sign;
        held = a.held;
      };
  nothing = λ e negative ds gives. read.nothing e negative ds (number_sent reading i bytes (at_scale i negative ds) n gives);
}

-- ---- edited items

unedited_under : (c : Category) (i : Item) (bytes : List ℕ) (v : Amount) → shows_number c ≡ true → GivesUnder c i bytes v → IsUnedited i bytes v
unedited_under Numeric i bytes v e g = g
unedited_under NumericEdited i bytes v e g = g
unedited_under Alphabetic i bytes v e g = absurd g
unedited_under Alphanumeric i bytes v e g = absurd (cc)
unedited_under AlphanumericEdited i bytes v e g = absurd g

under_unedited : (c : Category) (i : Item) (bytes : List ℕ) (v : Amount) → shows_number c ≡ true → IsUnedited i bytes v → GivesUnder c i bytes v
under_unedited Numeric i bytes v e g = g
under_unedited NumericEdited i bytes v e g = g
under_unedited Alphabetic i bytes v e g = absurd (cc)
under_unedited Alphanumeric i bytes v e g = absurd (cc)
under_unedited AlphanumericEdited i bytes v e g = absurd (cc)

-- an edited item gives what its text is edited of
pub edited_gives : (reading : Reading) (i : Item) (bytes : List ℕ) (v : Amount) → IsPlainlyEdited i → IsUnedited i bytes v → ItemGives reading i bytes v
edited_gives reading i bytes v p u =
    match_false (is_number i) (IsNumberIn reading i bytes v) (GivesUnder i.picture.category i bytes v) p.edited (under_unedited i.picture.category i bytes v p.shows u)

pub edited_given : (reading : Reading) (i : Item) (bytes : List ℕ) (v : Amount) → IsPlainlyEdited i → ItemGives reading i bytes v → IsUnedited i bytes v
edited_given reading i bytes v p g =
    unedited_under i.picture.category i bytes v p.shows (from_false (is_number i) (IsNumberIn reading i bytes v) (GivesUnder i.picture.category i bytes v) p.edited g)

-- ---- characters

pub numeral_plain : (i : Item) → IsNumeralItem i → is_number i ≡ false
numeral_plain i n = ap (λ c. is_numeric c && not i.blank) n.alphanumeric

pub numeral_gives : (reading : Reading) (i : Item) (bytes : List ℕ) (v : Amount) → IsNumeralItem i → IsReadAs bytes v → ItemGives reading i bytes v
numeral_gives reading i bytes v n r =
    match_false (is_number i) (IsNumberIn reading i bytes v) (GivesUnder i.picture.category i bytes v) (numeral_plain i n) (subst (λ c. GivesUnder c i bytes v) (sym n.alphanumeric) r)

pub numeral_given : (reading : Reading) (i : Item) (bytes : List ℕ) (v : Amount) → IsNumeralItem i → ItemGives reading i bytes v → IsReadAs bytes v
numeral_given reading i bytes v n g =
    subst (λ c. GivesUnder c i bytes v) n.alphanumeric (from_false (is_number i) (IsNumberIn reading i bytes v) (GivesUnder i.picture.category i bytes v) (numeral_plain i n) g)

-- characters are read at the scale of the item's picture
numeral_scaled : (i : Item) (bytes : List ℕ) (v : Amount) → IsNumeralItem i → IsReadAs bytes v → IsReadAs bytes (at_scale i v.negative v.digits)
numeral_scaled i bytes v n r = record {
  some = r.some;
  most = r.most;
  numerals = r.numerals;
  value = ap (λ (a : Amount). at_scale i a.negative a.digits) r.value ∙ ap (λ z. record { negative = false; digits = digits_of bytes; scale = z }) n.whole;
}

-- ---- any item that gives a number

-- it gives it at the scale of its picture
pub gives_scaled : (reading : Reading) (i : Item) (bytes : List ℕ) (v : Amount) → SendsNumber i → ItemGives reading i bytes v → GivesSigned reading i bytes v.negative v.digits
gives_scaled reading i bytes v sends g =
    elim sends [
      | inl n ↦ number_gives reading i bytes v.negative v.digits n (number_sent reading i bytes v n g)
      | inr (inl n) ↦ numeral_gives reading i bytes (at_scale i v.negative v.digits) n (numeral_scaled i bytes v n (numeral_given reading i bytes v n g))
      | inr (inr p) ↦
          let u : IsUnedited i bytes v = edited_given reading i bytes v p g in
          edited_gives reading i bytes (at_scale i v.negative v.digits) p (record {
            range = u.range;
            point = refl;
            text = subst (λ (z : ℤ). IsEdited i.picture i.blank v.negative v.digits z bytes) u.point u.text;
          })
    ]

-- ---- characters that were read by lanes

-- the byte of a digit in zone F
numeral_byte : (b : ℕ) → b / 16 ≡ 15 → b % 16 < 10 → is_numeral b ≡ true
numeral_byte b zone digit =
    let least : 240 ≤ b = omega arith in
    let most : b ≤ 249 = omega arith in
    ap (λ t. t && leb b 249) (le-leb _ _ least) ∙ ap (λ t. true && t) (le-leb _ _ most)

pub numerals_are : (bytes : List ℕ) → IsDigits (map low_digit bytes) → ((k : ℕ) → k < length bytes → get_or bytes k 0 / 16 ≡ 15) → AreNumerals bytes
numerals_are [] valid zones = tt
numerals_are (b ∷ bs) valid zones = (numeral_byte b (zones 0 (omega arith)) valid.0, numerals_are bs valid.1 (λ k lt. zones (suc k) (omega arith)))

numeral_within : (b : ℕ) → is_numeral b ≡ true → (240 ≤ b) × (b ≤ 249)
numeral_within b e = let both = and_parts _ _ e in (leb-true _ _ both.0, leb-true _ _ both.1)

pub low_digits : (bytes : List ℕ) → AreNumerals bytes → map low_digit bytes ≡ digits_of bytes
low_digits [] are = refl
low_digits (b ∷ bs) are =
    let within : (240 ≤ b) × (b ≤ 249) = numeral_within b are.0 in
    let here : b % 16 ≡ b - 240 = omega (arith, within.0, within.1) in
    ap (λ d. d ∷ map low_digit bs) here ∙ ap (λ ds. (b - 240) ∷ ds) (low_digits bs are.1)

pub numeral_zones : (bytes : List ℕ) → AreNumerals bytes → (k : ℕ) → k < length bytes → get_or bytes k 0 / 16 ≡ 15
numeral_zones [] are k lt = absurd (omega arith)
numeral_zones (b ∷ bs) are zero lt = let within : (240 ≤ b) × (b ≤ 249) = numeral_within b are.0 in omega (arith, within.0, within.1)
numeral_zones (b ∷ bs) are (suc k) lt = numeral_zones bs are.1 k (omega arith)

pub numeral_digits : (bytes : List ℕ) → AreNumerals bytes → IsDigits (map low_digit bytes)
numeral_digits [] are = tt
numeral_digits (b ∷ bs) are =
    let within : (240 ≤ b) × (b ≤ 249) = numeral_within b are.0 in
    let small : b % 16 < 10 = omega (arith, within.0, within.1) in
    (small, numeral_digits bs are.1)

numerals_give : (reading : Reading) (i : Item) (bytes : List ℕ) (negative : Bool) (ds : List ℕ) → IsNumeralItem i → AreNumeralsOf (item_size i) bytes negative ds → GivesSigned reading i bytes negative ds
numerals_give reading i bytes negative ds n are =
    let valid : IsDigits (map low_digit bytes) = subst (λ xs. IsDigits xs) are.low_halves are.valid in
    let each : AreNumerals bytes = numerals_are bytes valid (λ k lt. are.zones k (omega (arith, are.long))) in
    numeral_gives reading i bytes (at_scale i negative ds) n (record {
      some = omega (arith, are.long, n.some);
      most = omega (arith, are.long, n.fits);
      numerals = each;
      value = ap (λ b. at_scale i b ds) are.plus ∙ ap (λ xs. at_scale i false xs) (are.low_halves ∙ low_digits bytes each)
          ∙ ap (λ z. record { negative = false; digits = digits_of bytes; scale = z }) n.whole;
    })

numerals_of : (reading : Reading) (i : Item) (bytes : List ℕ) (negative : Bool) (ds : List ℕ) → IsNumeralItem i → length bytes ≡ item_size i → GivesSigned reading i bytes negative ds → AreNumeralsOf (item_size i) bytes negative ds
numerals_of reading i bytes negative ds n long gives =
    let r : IsReadAs bytes (at_scale i negative ds) = numeral_given reading i bytes (at_scale i negative ds) n gives in
    record {
      long = long;
      zones = λ k lt. numeral_zones bytes r.numerals k (omega (arith, long));
      low_halves = ap (λ (a : Amount). a.digits) r.value ∙ sym (low_digits bytes r.numerals);
      valid = subst (λ xs. IsDigits xs) (low_digits bytes r.numerals ∙ sym (ap (λ (a : Amount). a.digits) r.value)) (numeral_digits bytes r.numerals);
      plus = ap (λ (a : Amount). a.negative) r.value;
    }

-- what was read of characters is what they give
pub numerals_given : (reading : Reading) (i : Item) (bytes kept : List ℕ) (wanted : ℕ) (shift : ℤ) (told minus : Bool) → IsNumeralItem i → length bytes ≡ item_size i
    → IsNumberRead (AreNumeralsOf (item_size i) bytes) wanted shift told minus kept → IsNumberRead (GivesSigned reading i bytes) wanted shift told minus kept
numerals_given reading i bytes kept wanted shift told minus n long read = record {
  number = λ e.
      let a : AreRead (AreNumeralsOf (item_size i) bytes) wanted shift minus kept = read.number e in
      record {
        negative = a.negative;
        digits = a.digits;
        represented = numerals_give reading i bytes a.negative a.digits n a.represented;
        valid = a.valid;
        sign = a.sign;
        held = a.held;
      };
  nothing = λ e negative ds gives. read.nothing e negative ds (numerals_of reading i bytes negative ds n long gives);
}
