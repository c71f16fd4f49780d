-- Numbers in the range of a picture and their texts.
use Rattle.std.proofs.Common.{◌≡◌, ℕ, ◌*◌, ◌%◌, ◌^◌, ◌<◌, Bool, true, false, List, length, refl, sym, ap, subst, ◌∙◌, arith, IsTrue, ◌↔◌, inl, inr, ℤ, pos, ◌-ℤ◌}
use Rattle.std.proofs.lemmas.Bool.{cases_lt}
use Rattle.std.proofs.lemmas.Int.{ints}
use Rattle.std.proofs.Math.Nat.{mod-eq_of_lt}
use Rattle.cob_decimal.specs.Decimal.{IsDigits, number_of, shifted, aligned}
use Rattle.cob_decimal.proofs.DecimalLemmas.{all_zero, number_of-lt, one_list}
use Rattle.cob_picture.specs.Positions.{PlainPicture}
use Rattle.cob_picture.specs.Counts.{digits, scale}
use Rattle.cob_edit.specs.declared.place.EditedPlace.{EditedPlace}
use Rattle.cob_edit.specs.Editing.{are_zero, IsText, FitsPlaces, shows_sign}
use Rattle.cob_edit.specs.Pictured.{places, IsEdited, IsInRange, OneEditedText, SomeText, OneEditedNumber}
use Rattle.cob_edit.proofs.EditingLemmas.{text_same, text_exists}
use Rattle.cob_edit.proofs.OneValueLemmas.{one_reading}
use Rattle.cob_edit.proofs.PlaceLemmas.{digits_same}

pub not_zero : (ds : List ℕ) → 0 < number_of ds → are_zero ds ≡ false
not_zero ds some = at (are_zero ds) refl
  where
    at : (b : Bool) → are_zero ds ≡ b → b ≡ false
    at true e = let none : number_of ds ≡ 0 = (all_zero ds).0 e in absurd (omega arith)
    at false e = refl

pub some_number : (ds : List ℕ) → are_zero ds ≡ false → 0 < number_of ds
some_number ds e =
    elim (cases_lt 0 (number_of ds)) [
      | inl some ↦ some
      | inr none ↦ let zero : are_zero ds ≡ true = (all_zero ds).1 (omega arith) in let no : false ≡ true = sym e ∙ zero in absurd (cc)
    ]

pub range_fits : (p : PlainPicture) (n : Bool) (ds : List ℕ) → IsInRange p n ds → FitsPlaces (places p.positions) n ds
range_fits p n ds r = record { digits = r.valid; count = r.count ∙ sym (digits_same p.positions); nonzero = λ h. not_zero ds (r.nonzero h); sign = r.sign }

pub fits_range : (p : PlainPicture) (n : Bool) (ds : List ℕ) → FitsPlaces (places p.positions) n ds → IsInRange p n ds
fits_range p n ds f = record { valid = f.digits; count = f.count ∙ digits_same p.positions; nonzero = λ h. some_number ds (f.nonzero h); sign = f.sign }

-- a number that has the picture's scale stays as it is
same_scale : (a n : ℕ) (s : ℤ) → a < 10 ^ n → aligned a s s n ≡ a
same_scale a n s below =
    let none : s -ℤ s ≡ pos 0 = omega (arith, ints) in
    let whole : a * 10 ^ 0 ≡ a = omega arith in
    ap (λ z. shifted a z % 10 ^ n) none ∙ ap (λ x. x % 10 ^ n) whole ∙ mod-eq_of_lt below

pub kept_value : (p : PlainPicture) (ds : List ℕ) → IsDigits ds → length ds ≡ digits p.positions → aligned (number_of ds) (scale p.positions) (scale p.positions) (digits p.positions) ≡ number_of ds
kept_value p ds valid count = same_scale (number_of ds) (digits p.positions) (scale p.positions) (subst (λ n. number_of ds < 10 ^ n) count (number_of-lt ds valid))

-- the text of a number in range is that of its sign and digits
pub text_in_range : (p : PlainPicture) (blank n : Bool) (ds bytes : List ℕ) → IsInRange p n ds → IsEdited p blank n ds (scale p.positions) bytes → IsText (places p.positions) blank n ds bytes
text_in_range p blank n ds bytes r e =
    let kept : e.kept ≡ ds = one_list e.kept ds e.valid r.valid (e.count ∙ sym r.count) (e.value ∙ kept_value p ds r.valid r.count) in
    let minus : e.minus ≡ n = signs e.minus n e.sign r.sign (λ h. subst (λ xs. 0 < number_of xs) (sym kept) (r.nonzero h)) in
    subst (λ b. IsText (places p.positions) blank b ds bytes) minus (subst (λ xs. IsText (places p.positions) blank e.minus xs bytes) kept e.text)
  where
    signs : (a b : Bool) → (IsTrue a ↔ (IsTrue b × IsTrue (shows_sign (places p.positions)) × (0 < number_of e.kept))) → (IsTrue b → IsTrue (shows_sign (places p.positions))) → (IsTrue b → 0 < number_of e.kept) → a ≡ b
    signs true true h shows some = refl
    signs false false h shows some = refl
    signs true false h shows some = let no : false ≡ true = (h.0 refl).0 in absurd (cc)
    signs false true h shows some = let no : false ≡ true = h.1 (refl, shows refl, some refl) in absurd (cc)

pub edited_in_range : (p : PlainPicture) (blank n : Bool) (ds bytes : List ℕ) → IsInRange p n ds → IsText (places p.positions) blank n ds bytes → IsEdited p blank n ds (scale p.positions) bytes
edited_in_range p blank n ds bytes r t = record {
  kept = ds;
  minus = n;
  valid = r.valid;
  count = r.count;
  value = sym (kept_value p ds r.valid r.count);
  sign = (λ h. (h, r.sign h, r.nonzero h), λ t. t.0);
  text = t;
}

same_sign : (a b s : Bool) (x y : ℕ) → x ≡ y → (n : Bool) → (IsTrue a ↔ (IsTrue n × IsTrue s × (0 < x))) → (IsTrue b ↔ (IsTrue n × IsTrue s × (0 < y))) → a ≡ b
same_sign true true s x y e n p q = refl
same_sign false false s x y e n p q = refl
same_sign true false s x y e n p q = let h = p.0 refl in let no : false ≡ true = q.1 (h.0, h.1, omega (arith, h.2)) in absurd (cc)
same_sign false true s x y e n p q = let h = q.0 refl in let no : false ≡ true = p.1 (h.0, h.1, omega (arith, h.2)) in absurd (cc)

pub one_text : OneEditedText
one_text p blank negative sent from x y a b =
    let kept : a.kept ≡ b.kept = one_list a.kept b.kept a.valid b.valid (a.count ∙ sym b.count) (a.value ∙ sym b.value) in
    let minus : a.minus ≡ b.minus = same_sign a.minus b.minus (shows_sign (places p.positions)) (number_of a.kept) (number_of b.kept) (ap number_of kept) negative a.sign b.sign in
    text_same (places p.positions) blank b.minus b.kept x y (subst (λ m. IsText (places p.positions) blank m b.kept x) minus (subst (λ ds. IsText (places p.positions) blank a.minus ds x) kept a.text)) b.text

pub some_text : SomeText
some_text p blank negative ds r =
    let text : (x : List ℕ) × IsText (places p.positions) blank negative ds x = text_exists (places p.positions) blank negative ds in
    (text.0, edited_in_range p blank negative ds text.0 r text.1)

pub one_value : OneEditedNumber
one_value p blank m n ds es bytes a b x y =
    one_reading (places p.positions) blank m n ds es bytes (range_fits p m ds a) (range_fits p n es b) (text_in_range p blank m ds bytes a x) (text_in_range p blank n es bytes b y)

-- a number that is made of what fits keeps its sign
made_sign : (ps : List EditedPlace) (n r : Bool) (ds : List ℕ) → FitsPlaces ps n ds → (IsTrue r ↔ (IsTrue n × (0 < number_of ds))) → r ≡ n
made_sign ps true true ds f h = refl
made_sign ps false false ds f h = refl
made_sign ps true false ds f h = let no : false ≡ true = h.1 (refl, some_number ds (f.nonzero refl)) in absurd (cc)
made_sign ps false true ds f h = let no : false ≡ true = (h.0 refl).0 in absurd (cc)

-- what is read from a text is in range, and the text is its own
pub made_found : (p : PlainPicture) (blank n r : Bool) (ds made bytes : List ℕ) (ps : List EditedPlace) (s : ℤ) → ps ≡ places p.positions → FitsPlaces ps n ds → IsText ps blank n ds bytes → (IsTrue r ↔ (IsTrue n × (0 < number_of ds))) → made ≡ ds → s ≡ scale p.positions → IsInRange p r made × (s ≡ scale p.positions) × IsEdited p blank r made s bytes
made_found p blank n r ds made bytes ps s same fits text sign digits_are scale_is =
    let negative : n ≡ r = sym (made_sign ps n r ds fits sign) in
    let own_fits : FitsPlaces (places p.positions) r made = subst (λ b. FitsPlaces (places p.positions) b made) negative (subst (λ xs. FitsPlaces (places p.positions) n xs) (sym digits_are) (subst (λ qs. FitsPlaces qs n ds) same fits)) in
    let own_text : IsText (places p.positions) blank r made bytes = subst (λ b. IsText (places p.positions) blank b made bytes) negative (subst (λ xs. IsText (places p.positions) blank n xs bytes) (sym digits_are) (subst (λ qs. IsText qs blank n ds bytes) same text)) in
    let range : IsInRange p r made = fits_range p r made own_fits in
    (range, scale_is, subst (λ z. IsEdited p blank r made z bytes) (sym scale_is) (edited_in_range p blank r made bytes range own_text))

-- a number in range whose text the bytes are fits, and the bytes are its text
pub range_places : (p : PlainPicture) (blank n : Bool) (ds bytes : List ℕ) (ps : List EditedPlace) → ps ≡ places p.positions → IsInRange p n ds → IsEdited p blank n ds (scale p.positions) bytes → FitsPlaces ps n ds × IsText ps blank n ds bytes
range_places p blank n ds bytes ps same range edited = (subst (λ qs. FitsPlaces qs n ds) (sym same) (range_fits p n ds range), subst (λ qs. IsText qs blank n ds bytes) (sym same) (text_in_range p blank n ds bytes range edited))

-- what is read is the number in range whose text the bytes are
pub made_only : (n r own : Bool) (ds made read : List ℕ) (ps : List EditedPlace) (s t : ℤ) → FitsPlaces ps own read → (IsTrue r ↔ (IsTrue own × (0 < number_of read))) → made ≡ read → s ≡ t → (own ≡ n) × (read ≡ ds) → (r ≡ n) × (made ≡ ds) × (s ≡ t)
made_only n r own ds made read ps s t fits sign digits_are scale_is both = (made_sign ps own r read fits sign ∙ both.0, digits_are ∙ both.1, scale_is)
