-- The digits that are read from a text are those that it was made of.
use Rattle.std.proofs.Common.{◌≡◌, ℕ, ◌+◌, ◌<◌, ◌≤◌, List, [], ◌∷◌, ◌++◌, length, take, drop, get_or, refl, ap, sym, ◌∙◌, arith, Bool, true, false, count_by, inl, inr, zero, suc, MatchBool, cond, zero-add, ◌⊎◌}
use Rattle.std.specs.Prelude.{◌==◌, if◌then◌else◌}
use Rattle.std.specs.List.{list_all, flat_map}
use Rattle.std.proofs.lemmas.Bool.{cases_lt}
use Rattle.std.proofs.lemmas.Bool.Decides.{nat_tests}
use Rattle.std.proofs.lemmas.List.{drop_more, length-drop, take_all, drop_all}
use Rattle.std.proofs.lemmas.List.Sums.{sum_by_more, sum_by-take-le}
use Rattle.cob_decimal.specs.Decimal.{IsDigits}
use Rattle.cob_edit.specs.declared.place.EditedPlace.{EditedPlace}
use Rattle.cob_edit.specs.declared.place.EditedPlace.TheVariants.{Inserted, Point, Digit, Suppressed, Floating, First, Fixed, AssumedPoint}
use Rattle.cob_edit.specs.Places.{is_digit, has_byte}
use Rattle.cob_edit.specs.Editing.{region_start, place_at, digit_of, IsSuppressedTo, hidden, cell, printed, empty_cell, has_stars, shows_nothing, IsText, FitsPlaces, shown_digit, extract}
use Rattle.cob_edit.proofs.OneValueLemmas.{places, printed_places, zero_places, length-cell, length-empty_cell, cell_shown, cell_hidden, hidden_small, digit_cell, all_zero_at, and_left}

small_digit : (b : ℕ) → b ≤ 240 → shown_digit b ≡ 0
small_digit b h = grind (arith, nat_tests)

digit_back : (d : ℕ) → d < 10 → shown_digit (d + 240) ≡ d
digit_back d h = elim (cases_lt 0 d) [ inl some ↦ above d some h | inr none ↦ below d (omega arith) ]
  where
    above : (d : ℕ) → 0 < d → d < 10 → shown_digit (d + 240) ≡ d
    above d p q = grind (arith, nat_tests)

    below : (d : ℕ) → d ≡ 0 → shown_digit (d + 240) ≡ d
    below d e = grind (arith, nat_tests)

digits_bytes : (r : EditedPlace) → is_digit r ≡ true → has_byte r ≡ true
digits_bytes (Inserted b) h = absurd (cc)
digits_bytes Point h = absurd (cc)
digits_bytes Digit h = refl
digits_bytes (Suppressed f) h = refl
digits_bytes Floating h = refl
digits_bytes (First m) h = absurd (cc)
digits_bytes (Fixed m) h = absurd (cc)
digits_bytes AssumedPoint h = absurd (cc)

-- one place
extract_step : (X : List ℕ → List ℕ) (p d : Bool) (c tail : List ℕ) (g : ℕ) → length c ≡ (if p then 1 else 0) → (d ≡ true → shown_digit (get_or c 0 0) ≡ g) → (d ≡ true → p ≡ true) → (if d then shown_digit (get_or (c ++ tail) 0 0) ∷ [] else []) ++ X (if p then drop 1 (c ++ tail) else c ++ tail) ≡ (if d then g ∷ [] else []) ++ X tail
extract_step X true true (b ∷ []) tail g len is has_byte = ap (λ x. x ∷ X tail) (is refl)
extract_step X true false (b ∷ []) tail g len is has_byte = refl
extract_step X true d [] tail g len is has_byte = absurd (omega arith)
extract_step X true d (b ∷ b' ∷ bs) tail g len is has_byte = absurd (omega arith)
extract_step X false true c tail g len is has_byte = let no : false ≡ true = has_byte refl in absurd (cc)
extract_step X false false [] tail g len is has_byte = refl
extract_step X false false (b ∷ bs) tail g len is has_byte = absurd (omega arith)

-- the digits of the places from place j on
abbrev digits_from : (ℕ → ℕ) → ℕ → List EditedPlace → List ℕ
digits_from g j [] = []
digits_from g j (r ∷ rest) = (if is_digit r then g j ∷ [] else []) ++ digits_from g (j + 1) rest

extract-places : (f : ℕ → EditedPlace → List ℕ) (g : ℕ → ℕ) (rest : List EditedPlace) (j : ℕ) → ((i : ℕ) → i < length rest → length (f (j + i) (get_or rest i (Inserted 0))) ≡ (if has_byte (get_or rest i (Inserted 0)) then 1 else 0)) → ((i : ℕ) → i < length rest → is_digit (get_or rest i (Inserted 0)) ≡ true → shown_digit (get_or (f (j + i) (get_or rest i (Inserted 0))) 0 0) ≡ g (j + i)) → extract rest (places f j rest) ≡ digits_from g j rest
extract-places f g [] j len is = refl
extract-places f g (r ∷ rest) j len is =
    let zero_is : j + 0 ≡ j = omega arith in
    let move : (m : ℕ) → j + suc m ≡ j + 1 + m = λ m. omega arith in
    let first : length (f j r) ≡ (if has_byte r then 1 else 0) = rw zero_is at (len 0 (omega arith)) in
    let digit : is_digit r ≡ true → shown_digit (get_or (f j r) 0 0) ≡ g j = rw zero_is at (is 0 (omega arith)) in
    extract_step (λ xs. extract rest xs) (has_byte r) (is_digit r) (f j r) (places f (j + 1) rest) (g j) first digit (digits_bytes r)
    ∙ ap (λ xs. (if is_digit r then g j ∷ [] else []) ++ xs) (extract-places f g rest (j + 1) (λ m below. rw (← move m) (len (suc m) (omega arith))) (λ m below. rw (← move m) (is (suc m) (omega arith))))

cons_parts : (x y : EditedPlace) (xs ys : List EditedPlace) → x ∷ xs ≡ y ∷ ys → (x ≡ y) × (xs ≡ ys)
cons_parts x y xs ys e = (cc, cc)

digits_step : (ds xs : List ℕ) (b : Bool) (c n : ℕ) → n ≡ c + cond b 1 0 → xs ≡ drop n ds → n ≤ length ds → (if b then get_or ds c 0 ∷ [] else []) ++ xs ≡ drop c ds
digits_step ds xs true c n e h fits =
    let lt : c < length ds = omega arith in
    ap (λ ys. get_or ds c 0 ∷ ys) (h ∙ ap (λ k. drop k ds) e) ∙ sym (drop_more ds c 0 lt)
digits_step ds xs false c n e h fits = let same : n ≡ c = omega arith in h ∙ ap (λ k. drop k ds) same

-- the digits of all places are the digits
digits_all : (rs : List EditedPlace) (ds : List ℕ) (rest : List EditedPlace) (j : ℕ) → length ds ≡ count_by is_digit rs → drop j rs ≡ rest → digits_from (λ i. digit_of rs ds i) j rest ≡ drop (count_by is_digit (take j rs)) ds
digits_all rs ds [] j len e =
    let past : length rs ≤ j = omega (arith, length-drop j rs, ap length e) in
    sym (ap (λ xs. drop (count_by is_digit xs) ds) (take_all j rs past) ∙ drop_all (count_by is_digit rs) ds (omega arith))
digits_all rs ds (r ∷ rest) j len e =
    let lt : j < length rs = omega (arith, length-drop j rs, ap length e) in
    let parts : (get_or rs j (Inserted 0) ≡ r) × (drop (j + 1) rs ≡ rest) = cons_parts (get_or rs j (Inserted 0)) r (drop (j + 1) rs) rest (sym (drop_more rs j (Inserted 0) lt) ∙ e) in
    let more : count_by is_digit (take (j + 1) rs) ≡ count_by is_digit (take j rs) + cond (is_digit (get_or rs j (Inserted 0))) 1 0 = sum_by_more (λ x. cond (is_digit x) 1 0) rs j (Inserted 0) lt in
    let here : count_by is_digit (take (j + 1) rs) ≡ count_by is_digit (take j rs) + cond (is_digit r) 1 0 = more ∙ ap (λ x. count_by is_digit (take j rs) + cond (is_digit x) 1 0) parts.0 in
    let all : count_by is_digit (take (j + 1) rs) ≤ count_by is_digit rs = sum_by-take-le (λ x. cond (is_digit x) 1 0) rs (j + 1) in
    digits_step ds (digits_from (λ i. digit_of rs ds i) (j + 1) rest) (is_digit r) (count_by is_digit (take j rs)) (count_by is_digit (take (j + 1) rs)) here (digits_all rs ds rest (j + 1) len parts.1) (omega arith)

digit_small : (ds : List ℕ) (i : ℕ) → IsDigits ds → get_or ds i 0 < 10
digit_small [] i h = omega arith
digit_small (d ∷ ds) zero h = h.0
digit_small (d ∷ ds) (suc i) h = digit_small ds i h.1

zero_byte : (star : Bool) (r : EditedPlace) → get_or (empty_cell star r) 0 0 ≤ 240
zero_byte true (Inserted b) = omega arith
zero_byte false (Inserted b) = omega arith
zero_byte true Point = omega arith
zero_byte false Point = omega arith
zero_byte true Digit = omega arith
zero_byte false Digit = omega arith
zero_byte true (Suppressed f) = omega arith
zero_byte false (Suppressed f) = omega arith
zero_byte true Floating = omega arith
zero_byte false Floating = omega arith
zero_byte true (First m) = omega arith
zero_byte false (First m) = omega arith
zero_byte true (Fixed m) = omega arith
zero_byte false (Fixed m) = omega arith
zero_byte star AssumedPoint = omega arith

-- what a digit place of a text shows
cell_digit : (rs : List EditedPlace) (ds : List ℕ) (n : Bool) (k j : ℕ) → IsDigits ds → IsSuppressedTo rs ds k → is_digit (place_at rs j) ≡ true → shown_digit (get_or (cell rs n k j (place_at rs j) (digit_of rs ds j)) 0 0) ≡ digit_of rs ds j
cell_digit rs ds n k j valid cut is =
    elim (cases_lt j (region_start rs)) [
      | inl before ↦ visible (inr before)
      | inr from ↦ elim (cases_lt j k) [
        | inl lt ↦
            let small : hidden (place_at rs (region_start rs)) n (j + 1 == k) ≤ 240 = omega (arith, hidden_small rs n (j + 1 == k)) in
            ap (λ c. shown_digit (get_or c 0 0)) (cell_hidden rs n k j (digit_of rs ds j) (place_at rs j) from lt) ∙ small_digit (hidden (place_at rs (region_start rs)) n (j + 1 == k)) small ∙ sym (cut.zeros j from lt is)
        | inr after ↦ visible (inl after)
      ]
    ]
  where
    visible : (k ≤ j) ⊎ (j < region_start rs) → shown_digit (get_or (cell rs n k j (place_at rs j) (digit_of rs ds j)) 0 0) ≡ digit_of rs ds j
    visible outside =
        ap (λ c. shown_digit (get_or c 0 0)) (cell_shown rs n k j (digit_of rs ds j) (place_at rs j) outside ∙ digit_cell (place_at rs j) n (digit_of rs ds j) is)
        ∙ digit_back (digit_of rs ds j) (digit_small ds (count_by is_digit (take j rs)) valid)

pub extract_edited : (rs : List EditedPlace) (blank n : Bool) (ds bytes : List ℕ) → FitsPlaces rs n ds → IsText rs blank n ds bytes → extract rs bytes ≡ ds
extract_edited rs blank n ds bytes range edited = go (shows_nothing rs blank ds) refl edited
  where
    go : (b : Bool) → shows_nothing rs blank ds ≡ b → MatchBool b (bytes ≡ flat_map (empty_cell (has_stars rs blank)) rs) ((k : ℕ) × IsSuppressedTo rs ds k × (bytes ≡ printed rs ds n k 0 rs)) → extract rs bytes ≡ ds
    go true e h =
        let star : Bool = has_stars rs blank in
        let zero_digits : list_all (λ d. d == 0) ds ≡ true = and_left _ _ e in
        ap (λ xs. extract rs xs) (h ∙ zero_places star 0 rs)
        ∙ extract-places (λ i r. empty_cell star r) (λ i. digit_of rs ds i) rs 0 (λ i below. length-empty_cell star (place_at rs i))
        (λ i below is. small_digit (get_or (empty_cell star (place_at rs i)) 0 0) (zero_byte star (place_at rs i)) ∙ sym (all_zero_at ds zero_digits (count_by is_digit (take (0 + i) rs))))
        ∙ digits_all rs ds rs 0 range.count refl
    go false e (k, cut, h) =
        ap (λ xs. extract rs xs) (h ∙ printed_places rs ds n k 0 rs)
        ∙ extract-places (λ i r. cell rs n k i r (digit_of rs ds i)) (λ i. digit_of rs ds i) rs 0
        (λ i below. rw (zero-add i) (length-cell rs n k i (digit_of rs ds i) cut.to))
        (λ i below is. rw (zero-add i) (cell_digit rs ds n k i range.digits cut is))
        ∙ digits_all rs ds rs 0 range.count refl

-- digits without a minus fit
pub plus_fits : (ps : List EditedPlace) (ds : List ℕ) → IsDigits ds → length ds ≡ count_by is_digit ps → FitsPlaces ps false ds
plus_fits ps ds valid count = record {
  digits = valid;
  count = count;
  nonzero = λ h. let no : false ≡ true = h in absurd (cc);
  sign = λ h. let no : false ≡ true = h in absurd (cc);
}
