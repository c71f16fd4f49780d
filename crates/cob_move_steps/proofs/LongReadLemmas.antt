-- Numbers of edited items of any number of digits, read by prepared texts: the digits are taken out into two vectors, their text is made again, and compared.
use Rattle.std.proofs.Common.{◌≡◌, ◌↔◌, ℕ, ◌+◌, ◌-◌, ◌*◌, ◌%◌, ◌^◌, ◌<◌, ◌≤◌, ◌==◌, pos, Bool, true, false, not, IsTrue, List, ◌++◌, length, take, drop, replicate, count_by, get_or, refl, sym, ap, subst, ◌∙◌, inl, inr, arith, length-take-le, length-drop, get_or-take}
use Rattle.std.specs.Bool.{IsFalse}
use Rattle.std.specs.List.{prefix_len}
use Rattle.std.proofs.Math.Nat.{mod-eq_of_lt, pow-le-pow_right}
use Rattle.std.proofs.Math.Seq.{take-append_seam}
use Rattle.std.proofs.lemmas.Bool.{cases_lt, true≢false}
use Rattle.std.proofs.lemmas.List.{ext_get_or, get_or-drop, take-append-drop, take_all}
use Rattle.cob_decimal.specs.Decimal.{IsDigits, number_of}
use Rattle.cob_decimal.proofs.DecimalLemmas.{number_of-lt}
use Rattle.cob_picture.specs.Counts.{scale}
use Rattle.cob_codec.specs.declared.reading.Reading.{Reading}
use Rattle.cob_copybook_tree.specs.declared.node.Item.{Item}
use Rattle.cob_copybook_tree.specs.Lengths.{item_size}
use Rattle.cob_edit.specs.declared.place.EditedPlace.{EditedPlace}
use Rattle.cob_edit.specs.Editing.{extract, FitsPlaces, IsText}
use Rattle.cob_edit.specs.Pictured.{IsEdited, places}
use Rattle.cob_edit.specs.Places.{is_digit}
use Rattle.cob_edit.proofs.ExtractLemmas.{extract_edited}
use Rattle.cob_edit.proofs.PicturedLemmas.{one_text, range_fits, text_in_range}
use Rattle.cob_edit.proofs.PlaceLemmas.{digits_same}
use Rattle.cob_codec_lanes.specs.Lanes.{AreTens}
use Rattle.cob_codec_lanes.specs.LongPlaces.{padded_long_text}
use Rattle.cob_codec_lanes.specs.LongTexts.{AreLonglyShown}
use Rattle.cob_codec_lanes.specs.Readers.{AreWanted}
use Rattle.cob_codec_lanes.specs.Texts.{AreDigitsAt, digit_shown}
use Rattle.cob_codec_lanes.specs.Wide.{AreHeldWide, AreWidelyRead, IsWideRead}
use Rattle.cob_codec_lanes.specs.declared.long_text.LongText.{LongText}
use Rattle.cob_codec_lanes.proofs.HalfLemmas.{all_digits}
use Rattle.cob_codec_lanes.proofs.WantedLemmas.{wanted_aligned, wanted_tens}
use Rattle.cob_codec_lanes.proofs.WideLemmas.{joined, joined_valid}
use Rattle.cob_codec_lanes.proofs.WideWordLemmas.{number_of_both}
use Rattle.cob_move_receive.specs.Numbers.{IsUnedited}
use Rattle.cob_move_steps.specs.Ends.{GivesSigned, item_digits}
use Rattle.cob_move_steps.specs.LongDigits.{last_count, long_digits}
use Rattle.cob_move_steps.specs.LongReads.{IsPaddedBehind, bytes_of_digits}
use Rattle.cob_move_steps.specs.LongTexts.{IsLongEditedItem, IsLongTextFor}
use Rattle.cob_move_steps.specs.Texts.{digit_bytes_from}
use Rattle.cob_move_steps.proofs.DeeditLemmas.{count_bytes, count_digits, extract_at, lanes_led, minus_or_plain, padded_at}
use Rattle.cob_move_steps.proofs.GivenLemmas.{at_scale, edited_given, edited_gives}
use Rattle.cob_move_steps.proofs.LongDigits.{many_last}
use Rattle.cob_move_steps.proofs.LongTextLemmas.{digit_behind, digit_in_front, long_length, long_valid}

-- ---- the digits that are taken out

taken_tens : (ats bytes lanes : List ℕ) → AreDigitsAt ats bytes lanes → AreTens lanes
taken_tens ats bytes lanes d = (lanes_led ats bytes lanes (length ats) refl d).tens

pub digits_of_both : (ps : List EditedPlace) (bytes front back : List ℕ) (count : ℕ) → count_by is_digit ps ≡ count → count ≤ 31 → AreDigitsAt (take (count - 16) (digit_bytes_from 0 ps)) (padded_long_text bytes) front
    → AreDigitsAt (drop (count - 16) (digit_bytes_from 0 ps)) (padded_long_text bytes) back → long_digits count front back ≡ extract ps bytes
digits_of_both ps bytes front back count same few f b =
    let ats : List ℕ = digit_bytes_from 0 ps in
    let lead : ℕ = count - 16 in
    let padded : List ℕ = padded_long_text bytes in
    let many : length ats ≡ count = count_bytes 0 ps ∙ same in
    let long : length (long_digits count front back) ≡ count = long_length count front back few f.long b.long in
    ext_get_or 0 (long_digits count front back) (extract ps bytes) (long ∙ sym same ∙ sym (count_digits ps bytes)) (λ k lt.
    let inside : k < length ats = omega (arith, long, many) in
    let shown : digit_shown (get_or padded (get_or ats k 0) 0) ≡ get_or (extract ps bytes) k 0 = ap digit_shown (padded_at bytes (48 - length bytes) (get_or ats k 0)) ∙ sym (extract_at ps 0 bytes k inside) in
    elim (cases_lt k lead) [
      | inl before ↦
          let held : k < length (take lead ats) = omega (arith, length-take-le lead ats (omega (arith, many))) in
          digit_in_front count k front back few f.long before ∙ f.each k held ∙ ap (λ j. digit_shown (get_or padded j 0)) (get_or-take lead ats k 0 before) ∙ shown
      | inr from ↦
          let i : ℕ = k - lead in
          let held : i < length (drop lead ats) = omega (arith, length-drop lead ats, many) in
          let place : lead + i ≡ k = omega arith in
          digit_behind count k front back few f.long b.long from (omega (arith, many)) ∙ b.each i held
          ∙ ap (λ j. digit_shown (get_or padded j 0)) (get_or-drop lead ats i 0 ∙ ap (λ n. get_or ats n 0) place)
          ∙ shown
    ])

-- ---- the digits behind zeros

kept_value : (n : ℕ) (v kept : List ℕ) → n ≤ 16 → length v ≡ 16 → AreTens v → AreWanted 16 (pos 0) (number_of (take n v)) kept → number_of kept ≡ number_of (take n v)
kept_value n v kept few long tens held =
    let ds : List ℕ = take n v in
    let many : length ds ≡ n = length-take-le n v (omega arith) in
    let valid : IsDigits ds = all_digits ds (λ i lt. omega (arith, get_or-take n v i 0 (omega (arith, many)), tens i (omega (arith, many)))) in
    let below : number_of ds < 10 ^ n = subst (λ k. number_of ds < 10 ^ k) many (number_of-lt ds valid) in
    let most : 10 ^ n ≤ 10 ^ 16 = pow-le-pow_right (omega arith) few in
    let small : number_of ds < 10 ^ 16 = omega (arith, below, most) in
    let whole : take 16 kept ≡ kept = take_all 16 kept (omega (arith, held.long)) in
    let value : number_of (take 16 kept) ≡ number_of ds * 1 % 10 ^ 16 = wanted_aligned 16 (pos 0) (pos 0) (number_of ds) kept (omega arith) held in
    let same : number_of ds * 1 ≡ number_of ds = omega arith in
    sym (ap number_of whole) ∙ value ∙ ap (λ k. k % 10 ^ 16) same ∙ mod-eq_of_lt small

-- the number of digits in two vectors
long_value : (count : ℕ) (front back : List ℕ) → length back ≡ 16 → number_of (long_digits count front back) ≡ number_of (take (count - 16) front) * 10000000000000000 + number_of (take (last_count count) back)
long_value count front back long =
    let last : List ℕ = take (last_count count) back in
    elim (cases_lt count 16) [
      | inl lt ↦
          let none : count - 16 ≡ 0 = omega arith in
          let nothing : number_of (take (count - 16) front) ≡ 0 = ap (λ n. number_of (take n front)) none in
          let whole : number_of (long_digits count front back) ≡ number_of last = ap (λ n. number_of (take n front ++ last)) none in
          omega (arith, nothing, whole)
      | inr ge ↦ (let all : last_count count ≡ 16 = many_last count ge in number_of_both (take (count - 16) front) last (length-take-le (last_count count) back (omega (arith, all, long)) ∙ all))
    ]

pub held_behind : (count : ℕ) (front back a b : List ℕ) → count ≤ 31 → last_count count ≤ 16 → length front ≡ 16 → length back ≡ 16 → AreTens front → AreTens back → AreWanted 16 (pos 0) (number_of (take (count - 16) front)) a
    → AreWanted 16 (pos 0) (number_of (take (last_count count) back)) b → AreHeldWide (number_of (long_digits count front back)) a b
held_behind count front back a b few last first_long last_long tens more f l =
    let whole : joined 32 a b ≡ a ++ b = ap (λ xs. xs ++ b) (take_all 16 a (omega (arith, f.long))) in
    let x : number_of a ≡ number_of (take (count - 16) front) = kept_value (count - 16) front a (omega arith) first_long tens f in
    let y : number_of b ≡ number_of (take (last_count count) back) = kept_value (last_count count) back b last last_long more l in
    record {
      first = f.long;
      last = l.long;
      valid = subst IsDigits whole (joined_valid 32 a b (omega arith) (omega arith) f.long l.long (wanted_tens 16 (pos 0) (number_of (take (count - 16) front)) a f) (wanted_tens 16 (pos 0) (number_of (take (last_count count) back)) b l));
      value = omega (arith, number_of_both a b l.long, x, y, long_value count front back last_long);
    }

-- ---- the text that is made again

-- What is compared: the digits that stand in an item's bytes, and what makes its text of numbers with as many zeros in front.
pub record AreLongCompared (i : Item) (item front back : List ℕ) (zeros : ℕ) (t : LongText) : Type 0 where
  pub edited : IsLongEditedItem i
  pub long : length item ≡ item_size i
  pub first : AreDigitsAt (take (item_digits i - 16) (bytes_of_digits i)) (padded_long_text item) front
  pub last : AreDigitsAt (drop (item_digits i - 16) (bytes_of_digits i)) (padded_long_text item) back
  pub text : IsLongTextFor i zeros t
  pub padded : IsPaddedBehind i t
  pub led : zeros ≡ prefix_len (λ d. d == 0) (long_digits (item_digits i) front back)

-- the digits that were taken out
abbrev taken_digits : Item → (front back : List ℕ) → List ℕ
taken_digits i front back = long_digits (item_digits i) front back

module _ (i : Item) (item front back : List ℕ) (zeros : ℕ) (t : LongText) (c : AreLongCompared i item front back zeros t) where
  pub front_tens : AreTens front
  front_tens = taken_tens (take (item_digits i - 16) (bytes_of_digits i)) (padded_long_text item) front c.first

  pub back_tens : AreTens back
  back_tens = taken_tens (drop (item_digits i - 16) (bytes_of_digits i)) (padded_long_text item) back c.last

  valid : IsDigits (taken_digits i front back)
  valid = long_valid (item_digits i) front back c.edited.few c.first.long c.last.long front_tens back_tens

  count : length (taken_digits i front back) ≡ item_digits i
  count = long_length (item_digits i) front back c.edited.few c.first.long c.last.long

  edited_made : (negative : Bool) (made : List ℕ) → AreLonglyShown t negative front back made → IsEdited i.picture i.blank negative (taken_digits i front back) (scale i.picture.positions) (take (item_size i) made)
  edited_made negative made shown = c.text negative front back made c.first.long c.last.long front_tens back_tens (sym c.led) shown

  -- all forty-eight bytes are the item's where its own are
  same_text : (made : List ℕ) → made ≡ padded_long_text item → take (item_size i) made ≡ item
  same_text made e = ap (λ xs. take (item_size i) xs) e ∙ ap (λ n. take n (padded_long_text item)) (sym c.long) ∙ take-append_seam item (replicate (48 - length item) 0)

  text_same : (negative : Bool) (made : List ℕ) → AreLonglyShown t negative front back made → take (item_size i) made ≡ item → made ≡ padded_long_text item
  text_same negative made shown e =
      sym (take-append-drop (item_size i) made)
      ∙ ap (λ xs. take (item_size i) made ++ xs) (c.padded negative front back made shown)
      ∙ ap (λ xs. xs ++ replicate (48 - item_size i) 0) e
      ∙ ap (λ n. item ++ replicate (48 - n) 0) (sym c.long)

  text_here : (negative : Bool) (made : List ℕ) → AreLonglyShown t negative front back made → made ≡ padded_long_text item → IsEdited i.picture i.blank negative (taken_digits i front back) (scale i.picture.positions) item
  text_here negative made shown e =
      subst (λ xs. IsEdited i.picture i.blank negative (taken_digits i front back) (scale i.picture.positions) xs) (same_text made e) (edited_made negative made shown)

  -- digits whose text without a minus the item's bytes are
  plus_found : (made : List ℕ) → AreLonglyShown t false front back made → made ≡ padded_long_text item → IsUnedited i item (at_scale i false (taken_digits i front back))
  plus_found made shown e = record {
    range = record { valid = valid; count = count; nonzero = λ h. absurd (true≢false (sym h)); sign = λ h. absurd (true≢false (sym h)) };
    point = refl;
    text = text_here false made shown e;
  }

  -- digits whose text with a minus the item's bytes are, and not that without
  minus_found : (plain made : List ℕ) → AreLonglyShown t false front back plain → AreLonglyShown t true front back made → (plain ≡ padded_long_text item → ⊥) → made ≡ padded_long_text item
      → IsUnedited i item (at_scale i true (taken_digits i front back))
  minus_found plain made plain_shown shown other e =
      let text : IsEdited i.picture i.blank true (taken_digits i front back) (scale i.picture.positions) item = text_here true made shown e in
      elim (minus_or_plain i.picture i.blank (taken_digits i front back) item valid count text) [
        | inl range ↦ record { range = range; point = refl; text = text }
        | inr same ↦
            let first : take (item_size i) plain ≡ item = one_text i.picture i.blank false (taken_digits i front back) (scale i.picture.positions) (take (item_size i) plain) item (edited_made false plain plain_shown) same in
            absurd (other (text_same false plain plain_shown first))
      ]

  -- the text made again of a number that the item's bytes are the text of
  made_again : (negative : Bool) (ds made : List ℕ) → IsUnedited i item (at_scale i negative ds) → AreLonglyShown t negative front back made → made ≡ padded_long_text item
  made_again negative ds made u shown =
      let ps : List EditedPlace = places i.picture.positions in
      let fits : FitsPlaces ps negative ds = range_fits i.picture negative ds u.range in
      let text : IsText ps i.blank negative ds item = text_in_range i.picture i.blank negative ds item u.range u.text in
      let same : taken_digits i front back ≡ ds =
      digits_of_both ps item front back (item_digits i) (digits_same i.picture.positions) c.edited.few c.first c.last ∙ extract_edited ps i.blank negative ds item fits text
      in
      let own : IsEdited i.picture i.blank negative ds (scale i.picture.positions) (take (item_size i) made) =
      subst (λ xs. IsEdited i.picture i.blank negative xs (scale i.picture.positions) (take (item_size i) made)) same (edited_made negative made shown)
      in
      text_same negative made shown (one_text i.picture i.blank negative ds (scale i.picture.positions) (take (item_size i) made) item own u.text)

-- ---- what was read

read_long : (from : Item) (reading : Reading) (item ds a b : List ℕ) (negative : Bool) → IsLongEditedItem from → IsUnedited from item (at_scale from negative ds) → AreHeldWide (number_of ds) a b
    → AreWidelyRead (GivesSigned reading from item) negative a b
read_long from reading item ds a b negative edited u held = record {
  negative = negative;
  digits = ds;
  represented = edited_gives reading from item (at_scale from negative ds) edited.plainly u;
  valid = u.range.valid;
  sign = (λ h. (h, u.range.nonzero h), λ h. h.0);
  held = held;
}

-- what was read of an edited item, where the text without a minus is its bytes or not
pub long_text_read : (from : Item) (reading : Reading) (item front back a b plain : List ℕ) (zeros : ℕ) (t : LongText) (plus told : Bool) → AreLongCompared from item front back zeros t
    → AreLonglyShown t false front back plain → (IsTrue plus ↔ (plain ≡ padded_long_text item)) → (IsTrue plus → IsTrue told)
    → (IsFalse plus → (made : List ℕ) × AreLonglyShown t true front back made × (IsTrue told ↔ (made ≡ padded_long_text item)))
    → AreHeldWide (number_of (long_digits (item_digits from) front back)) a b
    → IsWideRead (GivesSigned reading from item) told (not plus) a b
long_text_read from reading item front back a b plain zeros t true told c shown is_plus tells other held = record {
  number = λ e. read_long from reading item (taken_digits from front back) a b false c.edited (plus_found from item front back zeros t c plain shown (is_plus.0 refl)) held;
  nothing = λ e negative ds gives. true≢false (sym (tells refl) ∙ e);
}
long_text_read from reading item front back a b plain zeros t false told c shown is_plus tells other held =
    let minus = other refl in
    record {
      number = λ e.
          read_long from reading item (taken_digits from front back) a b true c.edited
          (minus_found from item front back zeros t c plain minus.0 shown minus.1 (λ same. true≢false (sym (is_plus.1 same))) (minus.2.0 e)) held;
      nothing = λ e negative ds gives. none e negative ds (edited_given reading from item (at_scale from negative ds) c.edited.plainly gives);
    }
  where
    none : told ≡ false → (negative : Bool) (ds : List ℕ) → IsUnedited from item (at_scale from negative ds) → ⊥
    none e true ds u =
        let minus = other refl in
        true≢false (sym (minus.2.1 (made_again from item front back zeros t c true ds minus.0 u minus.1)) ∙ e)
    none e false ds u = true≢false (sym (is_plus.1 (made_again from item front back zeros t c false ds plain u shown)))
