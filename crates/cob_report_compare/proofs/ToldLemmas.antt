-- What is told of the elements of two records: nothing exactly where all hold one value.
use Rattle.std.proofs.Common.{◌≡◌, ℕ, zero, suc, ◌<◌, ◌≤◌, min, List, [], ◌∷◌, ◌++◌, Option, Some, refl, sym, ap, subst, ◌∙◌, append_assoc, append-nil, arith, inl, inr, Ok, Result}
use Rattle.std.specs.List.{AllByRecursion}
use Rattle.std.proofs.lemmas.Bool.{cases_lt}
use Rattle.cob_layout.specs.declared.fields.Place.{Place}
use Rattle.cob_layout.specs.declared.layout.PlaceFault.{PlaceFault}
use Rattle.cob_layout.specs.Fields.{field_of}
use Rattle.cob_layout.specs.Ways.{spot_at}
use Rattle.cob_report_show.specs.Elements.{AreSubscriptsUpTo, ElementStandsAt, NamedItem, Printed, table_times}
use Rattle.cob_report_compare.specs.Differences.{AreElementsTold, AreItemsTold, AreToldInTurn, IsDifference, IsElementTold, PlainDifference, shared_times}
use Rattle.cob_report_compare.specs.Equal.{EqualByValue, IsSameElement, IsSameItem, OccurAlike, SameValue}

-- ---- lists of which nothing is left

none_before : (xs ys : List PlainDifference) → [] ≡ xs ++ ys → xs ≡ []
none_before [] ys e = refl
none_before (x ∷ xs) ys e = absurd (cc)

none_behind : (xs ys : List PlainDifference) → [] ≡ xs ++ ys → ys ≡ []
none_behind [] ys e = sym e
none_behind (x ∷ xs) ys e = absurd (cc)

no_one : (d : PlainDifference) → [] ≡ d ∷ [] → ⊥
no_one d e = absurd (cc)

-- ---- elements in turn

-- where nothing is told of all, nothing is told of each
pub turn_of_none : (is : ℕ → List PlainDifference → Type 0) (n s : ℕ) → AreToldInTurn is n [] → 0 < s → s ≤ n → is s []
turn_of_none is zero s told some most = absurd (omega (arith, some, most))
turn_of_none is (suc n) s (front, last, turns, one, e) some most = elim (cases_lt n s) [
  | inl above ↦ subst (λ (k : ℕ). is k []) (omega (arith, above, most)) (subst (is (suc n)) (none_behind front last e) one)
  | inr low ↦ turn_of_none is n s (subst (AreToldInTurn is n) (none_before front last e) turns) some low
]

-- where nothing is told of each, nothing is told of all
pub none_in_turn : (is : ℕ → List PlainDifference → Type 0) (n : ℕ) → ((s : ℕ) → 0 < s → s ≤ n → (part : List PlainDifference) → is s part → part ≡ [])
    → (told : List PlainDifference) → AreToldInTurn is n told → told ≡ []
none_in_turn is zero each told e = e
none_in_turn is (suc n) each told (front, last, turns, one, e) =
    e
    ∙ ap (λ (xs : List PlainDifference). xs ++ last) (none_in_turn is n (λ s some most. each s some (omega (arith, most))) front turns)
    ∙ each (suc n) (omega arith) (omega arith) last one

-- ---- one element

-- the place in an answer
abbrev place_in : Place → Option (Result Place PlaceFault) → Place
place_in d (Some (Ok p)) = p
place_in d _ = d

one_place : (r : Printed) (x : NamedItem) (subscripts : List ℕ) (p q : Place) → ElementStandsAt r x subscripts p → ElementStandsAt r x subscripts q → p ≡ q
one_place r x subscripts p q a b = ap (place_in p) (sym a.found ∙ b.found)

-- an element that differs does not hold one value
pub not_both : (l r : Printed) (x : NamedItem) (subscripts : List ℕ) (d : PlainDifference) → IsDifference l r x subscripts d → IsSameElement l r x subscripts → ⊥
not_both l r x subscripts d is same =
    let left = one_place l x subscripts same.left d.left same.left_at is.left_at in
    let right = one_place r x subscripts same.right d.right same.right_at is.right_at in
    is.differs (subst (λ (p : Place). SameValue x.item (field_of p l.bytes) (field_of d.right r.bytes)) left
    (subst (λ (p : Place). SameValue x.item (field_of same.left l.bytes) (field_of p r.bytes)) right same.same))

-- ---- the elements of an item

abbrev pub inner_told : Printed → Printed → NamedItem → List ℕ → List ℕ → ℕ → List PlainDifference → Type 0
inner_told l r x ns subscripts s part = AreElementsTold l r x ns (subscripts ++ s ∷ []) part

pub same_of_none : (l r : Printed) (x : NamedItem) (ns subscripts : List ℕ) → AreElementsTold l r x ns subscripts [] → (inner : List ℕ) → AreSubscriptsUpTo ns inner
    → IsSameElement l r x (subscripts ++ inner)
same_of_none l r x [] subscripts told inner none =
    subst (IsSameElement l r x) (sym (ap (λ (i : List ℕ). subscripts ++ i) none ∙ append-nil subscripts)) (alone told)
  where
    alone : IsElementTold l r x subscripts [] → IsSameElement l r x subscripts
    alone (inl (same, e)) = same
    alone (inr (d, is, e)) = absurd (no_one d e)
same_of_none l r x (n ∷ ns) subscripts told [] legal = absurd legal
same_of_none l r x (n ∷ ns) subscripts told (s ∷ inner) (some, most, legal) =
    subst (IsSameElement l r x) (append_assoc subscripts (s ∷ []) inner)
    (same_of_none l r x ns (subscripts ++ s ∷ []) (turn_of_none (inner_told l r x ns subscripts) n s told some most) inner legal)

pub none_of_same : (l r : Printed) (x : NamedItem) (ns subscripts : List ℕ) → ((inner : List ℕ) → AreSubscriptsUpTo ns inner → IsSameElement l r x (subscripts ++ inner))
    → (told : List PlainDifference) → AreElementsTold l r x ns subscripts told → told ≡ []
none_of_same l r x [] subscripts each told (inl (same, e)) = e
none_of_same l r x [] subscripts each told (inr (d, is, e)) = absurd (not_both l r x subscripts d is (subst (IsSameElement l r x) (append-nil subscripts) (each [] refl)))
none_of_same l r x (n ∷ ns) subscripts each told turns =
    none_in_turn (inner_told l r x ns subscripts) n
    (λ s some most part one. none_of_same l r x ns (subscripts ++ s ∷ [])
    (λ inner legal. subst (IsSameElement l r x) (sym (append_assoc subscripts (s ∷ []) inner)) (each (s ∷ inner) (some, most, legal))) part one)
    told turns

-- ---- items

least : (a b : ℕ) → a ≡ b → min a b ≡ a
least a b e = omega (arith, e)

-- where each entry occurs as often in both records, both have all elements of the left one
pub shared_is : (l r : Printed) → OccurAlike l r → (tables : List ℕ) → shared_times l r tables ≡ table_times l tables
shared_is l r alike [] = refl
shared_is l r alike (t ∷ ts) =
    let a = (spot_at l.places.spots t).times in
    let b = (spot_at r.places.spots t).times in
    ap (λ (ns : List ℕ). min a b ∷ ns) (shared_is l r alike ts) ∙ ap (λ (n : ℕ). n ∷ table_times l ts) (least a b (alike t))

items_same : (l r : Printed) (xs : List NamedItem) → OccurAlike l r → AreItemsTold l r xs [] → AllByRecursion (IsSameItem l r) xs
items_same l r [] alike told = tt
items_same l r (x ∷ xs) alike (front, rest, one, others, e) = (
  λ inner legal. same_of_none l r x (shared_times l r x.tables) [] (subst (AreElementsTold l r x (shared_times l r x.tables) []) (none_before front rest e) one) inner
      (subst (λ (ns : List ℕ). AreSubscriptsUpTo ns inner) (sym (shared_is l r alike x.tables)) legal),
  items_same l r xs alike (subst (AreItemsTold l r xs) (none_behind front rest e) others),
)

none_of_items : (l r : Printed) (xs : List NamedItem) → OccurAlike l r → AllByRecursion (IsSameItem l r) xs → (told : List PlainDifference) → AreItemsTold l r xs told → told ≡ []
none_of_items l r [] alike same told e = e
none_of_items l r (x ∷ xs) alike same told (front, rest, one, others, e) =
    e
    ∙ ap (λ (ts : List PlainDifference). ts ++ rest)
    (none_of_same l r x (shared_times l r x.tables) [] (λ inner legal. same.0 inner (subst (λ (ns : List ℕ). AreSubscriptsUpTo ns inner) (shared_is l r alike x.tables) legal)) front one)
    ∙ none_of_items l r xs alike same.1 rest others

-- records of which nothing is told, and in which each entry occurs as often, are equal by value
pub equal_of_none : (l r : Printed) (xs : List NamedItem) (told : List PlainDifference) → OccurAlike l r → AreItemsTold l r xs told → told ≡ [] → EqualByValue xs l r
equal_of_none l r xs told alike all none = record { alike = alike; same = items_same l r xs alike (subst (AreItemsTold l r xs) none all) }

-- and of records that are, nothing is told
pub none_of_equal : (l r : Printed) (xs : List NamedItem) (told : List PlainDifference) → AreItemsTold l r xs told → EqualByValue xs l r → told ≡ []
none_of_equal l r xs told all equal = none_of_items l r xs equal.alike equal.same told all
