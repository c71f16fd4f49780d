-- Lemmas on the region, the cut and the text.
use Rattle.std.proofs.Common.{cond, count_by, ◌≡◌, ℕ, ◌+◌, ◌-◌, ◌<◌, ◌≤◌, List, length, take, drop, get_or, refl, ap, sym, ◌∙◌, arith, Bool, true, false, not, ◌||◌, ◌⊎◌, inl, inr, zero, suc, IsTrue, MatchBool, subst}
use Rattle.std.proofs.lemmas.List.{get_or-drop, length-drop}
use Rattle.std.proofs.lemmas.List.Sums.{prefix_len_passes, prefix_len-le-length, sum_by_more, sum_by-take-le}
use Rattle.std.specs.List.{prefix_len, flat_map}
use Rattle.std.proofs.lemmas.Bool.{cases_lt}
use Rattle.cob_edit.specs.declared.place.EditedPlace.{EditedPlace}
use Rattle.cob_edit.specs.declared.place.EditedPlace.TheVariants.{Inserted, Point, Digit, Suppressed, Floating, First, Fixed, AssumedPoint}
use Rattle.cob_edit.specs.Places.{is_digit, is_run, is_run_or_insertion, is_point_place, has_byte}
use Rattle.cob_edit.specs.Editing.{region_start, region_end, place_at, digit_of, IsSuppressedTo, printed, empty_cell, has_stars, shows_nothing, IsText}

-- each place of the region holds a byte
bytes_run : (p : EditedPlace) → is_run_or_insertion p ≡ true → has_byte p ≡ true
bytes_run (Inserted b) h = refl
bytes_run (Suppressed f) h = refl
bytes_run Floating h = refl
bytes_run (First m) h = refl
bytes_run Digit h = refl
bytes_run Point h = refl
bytes_run (Fixed m) h = refl
bytes_run AssumedPoint h = h

-- the region is of the run and insertions
pub region_run : (ps : List EditedPlace) (j : ℕ) → region_start ps ≤ j → j < region_end ps → is_run_or_insertion (place_at ps j) ≡ true
region_run ps j low high =
    let s : ℕ = region_start ps in
    let within : j - s < prefix_len is_run_or_insertion (drop s ps) = omega arith in
    let run : is_run_or_insertion (get_or (drop s ps) (j - s) (Inserted 0)) ≡ true = prefix_len_passes is_run_or_insertion (drop s ps) (j - s) (Inserted 0) within in
    let place : s + (j - s) ≡ j = omega arith in
    let at : get_or (drop s ps) (j - s) (Inserted 0) ≡ get_or ps j (Inserted 0) = get_or-drop s ps (j - s) (Inserted 0) ∙ ap (λ i. get_or ps i (Inserted 0)) place in
    ap is_run_or_insertion (sym at) ∙ run

pub region_bytes : (ps : List EditedPlace) (j : ℕ) → region_start ps ≤ j → j < region_end ps → has_byte (place_at ps j) ≡ true
region_bytes ps j low high = bytes_run (place_at ps j) (region_run ps j low high)

pub region_inside : (ps : List EditedPlace) → region_end ps ≤ length ps
region_inside ps =
    let s : ℕ = region_start ps in
    let some : prefix_len is_run_or_insertion (drop s ps) ≤ length (drop s ps) = prefix_len-le-length is_run_or_insertion (drop s ps) in
    let start : s ≤ length ps = prefix_len-le-length (λ p. not (is_run p || is_point_place p)) ps in
    omega (arith, length-drop s ps)

-- a digit place has a digit of its own
pub digit_inside : (ps : List EditedPlace) (j : ℕ) → j < length ps → is_digit (place_at ps j) ≡ true → count_by is_digit (take j ps) < count_by is_digit ps
digit_inside ps j lt is =
    let more : count_by is_digit (take (j + 1) ps) ≡ count_by is_digit (take j ps) + cond {A = ℕ} (is_digit (place_at ps j)) 1 0 = sum_by_more (λ x. cond (is_digit x) 1 0) ps j (Inserted 0) lt in
    let one : cond {A = ℕ} (is_digit (place_at ps j)) 1 0 ≡ 1 = ap (λ b. cond {A = ℕ} b 1 0) is in
    let all : count_by is_digit (take (j + 1) ps) ≤ count_by is_digit ps = sum_by-take-le (λ x. cond (is_digit x) 1 0) ps (j + 1) in
    omega arith

-- ---- the cut

cut_not_before : (ps : List EditedPlace) (ds : List ℕ) (j k : ℕ) → IsSuppressedTo ps ds j → IsSuppressedTo ps ds k → j < k → ⊥
cut_not_before ps ds j k a b lt =
    elim a.stop [ inl at_end ↦ omega (arith, b.to) | inr nonzero ↦ omega (arith, nonzero.1, b.zeros j a.from lt nonzero.0) ]

-- there is one cut
pub cut_one : (ps : List EditedPlace) (ds : List ℕ) (j k : ℕ) → IsSuppressedTo ps ds j → IsSuppressedTo ps ds k → j ≡ k
cut_one ps ds j k a b =
    elim (cases_lt j k) [
      | inl lt ↦ absurd (cut_not_before ps ds j k a b lt)
      | inr ge ↦ elim (cases_lt k j) [ inl lt ↦ absurd (cut_not_before ps ds k j b a lt) | inr le ↦ omega arith ]
    ]

bool_cases : (b : Bool) → (b ≡ true) ⊎ (b ≡ false)
bool_cases true = inl refl
bool_cases false = inr refl

-- the digits of the region before place j are 0
abbrev AreZeroBefore : List EditedPlace → List ℕ → ℕ → Type 0
AreZeroBefore ps ds j = (i : ℕ) → region_start ps ≤ i → i < j → IsTrue (is_digit (place_at ps i)) → digit_of ps ds i ≡ 0

zeros_more : (ps : List EditedPlace) (ds : List ℕ) (j : ℕ) → AreZeroBefore ps ds j → (IsTrue (is_digit (place_at ps j)) → digit_of ps ds j ≡ 0) → AreZeroBefore ps ds (j + 1)
zeros_more ps ds j zeros here i low lt is =
    elim (cases_lt i j) [
      | inl before ↦ zeros i low before is
      | inr from ↦ let same : j ≡ i = omega arith in subst (λ x. IsTrue (is_digit (place_at ps x)) → digit_of ps ds x ≡ 0) same here is
    ]

cut_from : (ps : List EditedPlace) (ds : List ℕ) (m j : ℕ) → j + m ≡ region_end ps → region_start ps ≤ j → AreZeroBefore ps ds j → (k : ℕ) × IsSuppressedTo ps ds k
cut_from ps ds zero j e low zeros = (j, record { from = low; to = omega arith; zeros = zeros; stop = inl (omega arith) })
cut_from ps ds (suc m) j e low zeros =
    elim (bool_cases (is_digit (place_at ps j))) [
      | inl digit ↦ elim (cases_lt 0 (digit_of ps ds j)) [
        | inl some ↦ (j, record { from = low; to = omega arith; zeros = zeros; stop = inr (digit, some) })
        | inr none ↦ cut_from ps ds m (j + 1) (omega arith) (omega arith) (zeros_more ps ds j zeros (λ is. omega arith))
      ]
      | inr other ↦ cut_from ps ds m (j + 1) (omega arith) (omega arith) (zeros_more ps ds j zeros (λ is. let no : false ≡ true = sym other ∙ is in absurd (cc)))
    ]

-- there is a cut
pub cut_some : (ps : List EditedPlace) (ds : List ℕ) → (k : ℕ) × IsSuppressedTo ps ds k
cut_some ps ds = cut_from ps ds (prefix_len is_run_or_insertion (drop (region_start ps) ps)) (region_start ps) refl (omega arith) (λ i low lt is. absurd (omega arith))

-- ---- the text

text_one : (empty : Bool) (ps : List EditedPlace) (negative : Bool) (ds x y z : List ℕ) → MatchBool empty (x ≡ z) ((k : ℕ) × IsSuppressedTo ps ds k × (x ≡ printed ps ds negative k 0 ps)) → MatchBool empty (y ≡ z) ((k : ℕ) × IsSuppressedTo ps ds k × (y ≡ printed ps ds negative k 0 ps)) → x ≡ y
text_one true ps negative ds x y z p q = p ∙ sym q
text_one false ps negative ds x y z p q = p.2 ∙ ap (λ k. printed ps ds negative k 0 ps) (cut_one ps ds p.0 q.0 p.1 q.1) ∙ sym q.2

-- digits and a sign have one text
pub text_same : (ps : List EditedPlace) (blank negative : Bool) (ds x y : List ℕ) → IsText ps blank negative ds x → IsText ps blank negative ds y → x ≡ y
text_same ps blank negative ds x y p q = text_one (shows_nothing ps blank ds) ps negative ds x y (flat_map (empty_cell (has_stars ps blank)) ps) p q

text_some : (empty : Bool) (ps : List EditedPlace) (negative : Bool) (ds z : List ℕ) → (x : List ℕ) × MatchBool empty (x ≡ z) ((k : ℕ) × IsSuppressedTo ps ds k × (x ≡ printed ps ds negative k 0 ps))
text_some true ps negative ds z = (z, refl)
text_some false ps negative ds z = let cut : (k : ℕ) × IsSuppressedTo ps ds k = cut_some ps ds in (printed ps ds negative cut.0 0 ps, (cut.0, cut.1, refl))

-- digits and a sign have a text
pub text_exists : (ps : List EditedPlace) (blank negative : Bool) (ds : List ℕ) → (x : List ℕ) × IsText ps blank negative ds x
text_exists ps blank negative ds = text_some (shows_nothing ps blank ds) ps negative ds (flat_map (empty_cell (has_stars ps blank)) ps)
