-- Counts that agree on what a reference needs give it one place.
use Rattle.std.proofs.Common.{◌≡◌, ℕ, ◌+◌, ◌*◌, ◌<◌, ◌≤◌, ◌==◌, nat_le, List, refl, sym, ap, subst, ◌∙◌, arith, Option, Some, None, Bool, true, false, inl, inr}
use Rattle.std.specs.Prelude.{slice_index, if◌then◌else◌, ◌||◌}
use Rattle.std.proofs.lemmas.Bool.Decides.{nat_tests}
use Rattle.std.proofs.lemmas.Bool.{cases_lt}
use Rattle.cob_layout_places.specs.declared.places.Found.{Found}
use Rattle.cob_copybook_tree.specs.Forests.{Forest, NoEntries, AnEntry, entries_in}
use Rattle.cob_copybook_tree.specs.Nodes.{Resolved}
use Rattle.cob_copybook_tree.specs.Lengths.{greatest_number, own_length, length_by_kind, element_length, whole_length}
use Rattle.cob_layout_places.specs.Lengths.{times, times_by}
use Rattle.cob_layout_places.specs.Places.{place_of, or_else, also, choose, begins, is_table, skipped, is_there, later}
use Rattle.cob_layout_places.specs.Cover.{AreNumbered}
use Rattle.cob_layout_places.specs.Needs.{number_behind}
use Rattle.cob_layout_places.specs.Agree.{OnePlace}
use Rattle.cob_layout_places.proofs.CoverLaw.{absent, differs, not_or}
use Rattle.cob_layout_places.proofs.AgreeLaw.{AgreeBelow, sum_same}
use Rattle.cob_layout_places.proofs.NeedLaw.{has_number, below_needed, reach_le, high}

-- the reach with tables
abbrev limit : ℕ → Forest Resolved → ℕ
limit r NoEntries = 0
limit r (AnEntry e children more) =
    let end = e.number + 1 + entries_in children in
    if nat_le end r then limit r more else
    if is_table e.occurs || e.number == r then end else limit r children

limit_reach : (r : ℕ) (f : Forest Resolved) → limit r f ≡ number_behind true r f
limit_reach r NoEntries = refl
limit_reach r (AnEntry e children more) = λ j. if nat_le (e.number + 1 + entries_in children) r then limit_reach r more j else if is_table e.occurs || (e.number == r) then e.number + 1 + entries_in children else limit_reach r children j

le_true : (a b : ℕ) → a ≤ b → nat_le a b ≡ true
le_true a b h = grind (arith, nat_tests)

le_must : (a b : ℕ) → nat_le a b ≡ true → a ≤ b
le_must a b h = grind (arith, nat_tests)

le_not : (a b : ℕ) → nat_le a b ≡ false → b < a
le_not a b h = grind (arith, nat_tests)

same_not : (a b : ℕ) → (a == b) ≡ false → a ≡ b → ⊥
same_not a b h e = grind (arith, nat_tests)

differs_low : (a b : ℕ) → b < a → (a == b) ≡ false
differs_low a b h = grind (arith, nat_tests)

absent_low : (c : Resolved → ℕ) (k n : ℕ) (f : Forest Resolved) (at area : ℕ) (subscripts : List ℕ) → AreNumbered n f → k < n → place_of c k f at area subscripts ≡ None
absent_low c k n NoEntries at area subscripts h l = refl
absent_low c k n (AnEntry i beneath rest) at area subscripts h l =
    not_or _ _ _ _ _ (differs_low i.number k (omega (arith, h.0))) (absent_low c k (n + 1) beneath _ _ _ h.1 (omega arith))
    ∙ absent_low c k (n + 1 + entries_in beneath) rest _ _ _ h.2 (omega arith)

by_two : (P : ℕ → Type 0) (x y : Bool) (a b c : ℕ) → (x ≡ true → P a) → (x ≡ false → y ≡ true → P b) → (x ≡ false → y ≡ false → P c) → P (if x then a else if y then b else c)
by_two P true y a b c h j k = h refl
by_two P false true a b c h j k = j refl refl
by_two P false false a b c h j k = k refl refl

or_not : (x y : Bool) → (x || y) ≡ false → y ≡ false
or_not false y h = h
or_not true y h = absurd (cc)

limit_more : (n r : ℕ) (f : Forest Resolved) → AreNumbered n f → n ≤ r → r < n + entries_in f → (r < limit r f) × (limit r f ≤ n + entries_in f)
limit_more n r NoEntries h l u = absurd (omega arith)
limit_more n r (AnEntry i beneath rest) h l u =
    by_two (λ m. (r < m) × (m ≤ n + entries_in (AnEntry i beneath rest))) _ _ _ _ _
    (λ e. let q = limit_more (n + 1 + entries_in beneath) r rest h.2 (omega (arith, h.0, le_must _ _ e)) (omega arith) in (q.0, omega (arith, q.1)))
    (λ e y. (le_not _ _ e, omega (arith, h.0)))
    (λ e y. let ne : i.number ≡ r → ⊥ = same_not i.number r (or_not (is_table i.occurs) _ y) in
    let q = limit_more (n + 1) r beneath h.1 (above n i.number r h.0 l ne) (omega (arith, le_not _ _ e, h.0)) in (q.0, omega (arith, q.1)))
  where
    above : (n m r : ℕ) → m ≡ n → n ≤ r → (m ≡ r → ⊥) → n + 1 ≤ r
    above n m r e l ne = elim (cases_lt n r) [ inl lt ↦ omega arith | inr ge ↦ absurd (ne (omega arith)) ]

abbrev head_at : Bool → Bool → ℕ → ℕ → ℕ → ℕ → List ℕ → (ℕ → Option Found) → Option Found
head_at t table g start e n subscripts F = choose t (record { offset = start + skipped table g subscripts * e; length = e; within = is_there table n subscripts })
    (also (is_there table n subscripts) (F (start + skipped table g subscripts * e)))

nothing : (s a b : ℕ) → s + 0 * a ≡ s + 0 * b
nothing s a b = grind arith

head_same : (t table : Bool) (g start e d n m : ℕ) (subscripts : List ℕ) (F G : ℕ → Option Found)
    → ((table || t) ≡ true → (e ≡ d) × (n ≡ m)) → (t ≡ false → (o : ℕ) → F o ≡ G o)
    → head_at t table g start e n subscripts F ≡ head_at t table g start d m subscripts G
head_same true true g start e d n m subscripts F G h k = let p = h refl in λ j. Some record { offset = start + skipped true g subscripts * p.0 j; length = p.0 j; within = is_there true (p.1 j) subscripts }
head_same true false g start e d n m subscripts F G h k = let p = h refl in λ j. Some record { offset = start + skipped false g subscripts * p.0 j; length = p.0 j; within = is_there false (p.1 j) subscripts }
head_same false true g start e d n m subscripts F G h k = let p = h refl in λ j. also (is_there true (p.1 j) subscripts) (k refl (start + skipped true g subscripts * p.0 j) j)
head_same false false g start e d n m subscripts F G h k = ap (also true) (ap F (nothing start e d) ∙ k refl (start + 0 * d))

drop_rest : (o p : Option Found) → p ≡ None → or_else o p ≡ o
drop_rest None p e = e
drop_rest (Some f) p e = refl

limit_behind : (r : ℕ) (i : Resolved) (beneath rest : Forest Resolved) → i.number + 1 + entries_in beneath ≤ r → limit r (AnEntry i beneath rest) ≡ limit r rest
limit_behind r i beneath rest h = rw (le_true _ _ h) refl

limit_whole : (r : ℕ) (i : Resolved) (beneath rest : Forest Resolved) → r < i.number + 1 + entries_in beneath → (is_table i.occurs || (i.number == r)) ≡ true → limit r (AnEntry i beneath rest) ≡ i.number + 1 + entries_in beneath
limit_whole r i beneath rest h t = let f : nat_le (i.number + 1 + entries_in beneath) r ≡ false = grind (arith, nat_tests) in rw (f, t) refl

limit_inner : (r : ℕ) (i : Resolved) (beneath rest : Forest Resolved) → r < i.number + 1 + entries_in beneath → limit r beneath ≤ i.number + 1 + entries_in beneath → limit r beneath ≤ limit r (AnEntry i beneath rest)
limit_inner r i beneath rest h q = by_two (λ m. limit r beneath ≤ m) (nat_le (i.number + 1 + entries_in beneath) r) (is_table i.occurs || (i.number == r)) (limit r rest) (i.number + 1 + entries_in beneath) (limit r beneath)
    (λ e. absurd (omega (arith, h, le_must (i.number + 1 + entries_in beneath) r e)))
    (λ e y. q)
    (λ e y. omega arith)

above : (n m r : ℕ) → m ≡ n → n ≤ r → (m ≡ r → ⊥) → n + 1 ≤ r
above n m r e l ne = elim (cases_lt n r) [ inl lt ↦ omega arith | inr ge ↦ absurd (ne (omega arith)) ]

place_by : (c d : List ℕ) (f : Forest Resolved) (n r at area : ℕ) (subscripts : List ℕ) → AreNumbered n f → n ≤ r → r < n + entries_in f → AgreeBelow (limit r f) c d
    → place_of (times c) r f at area subscripts ≡ place_of (times d) r f at area subscripts
place_by c d NoEntries n r at area subs h l u g = absurd (omega arith)
place_by c d (AnEntry i beneath rest) n r at area subs h l u g = elim (cases_lt r (n + 1 + entries_in beneath)) [
  | inr ge ↦ (let behind = limit_behind r i beneath rest (omega (arith, h.0)) in
      let q = limit_more (n + 1 + entries_in beneath) r rest h.2 ge (omega arith) in
      let gr : AgreeBelow (limit r rest) c d = subst (λ m. AgreeBelow m c d) behind g in
      let gl : AgreeBelow (n + 1 + entries_in beneath) c d = λ k lt. gr k (omega (arith, q.0)) in
      let number : slice_index c i.number ≡ slice_index d i.number = gl i.number (omega (arith, h.0)) in
      let sums = sum_same c d beneath (n + 1) (n + 1 + entries_in beneath) h.1 (omega arith) gl in
      let e : whole_length (times c) i beneath ≡ whole_length (times d) i beneath = λ j. times_by (number j) i.occurs * length_by_kind i.kind (sums j) in
      let skip_c = not_or _ _ _ (place_of (times c) r rest (at + own_length i.redefines (whole_length (times c) i beneath)) (begins i.redefines at area) subs) _ (differs i.number r (omega (arith, h.0))) (absent (times c) r (n + 1) beneath _ _ _ h.1 ge) in
      let skip_d = not_or _ _ _ (place_of (times d) r rest (at + own_length i.redefines (whole_length (times d) i beneath)) (begins i.redefines at area) subs) _ (differs i.number r (omega (arith, h.0))) (absent (times d) r (n + 1) beneath _ _ _ h.1 ge) in
      skip_c ∙ ap (λ w. place_of (times c) r rest (at + own_length i.redefines w) (begins i.redefines at area) subs) e
      ∙ place_by c d rest (n + 1 + entries_in beneath) r _ _ subs h.2 ge (omega arith) gr ∙ sym skip_d)
  | inl lt ↦ (let none_c = absent_low (times c) r (n + 1 + entries_in beneath) rest (at + own_length i.redefines (whole_length (times c) i beneath)) (begins i.redefines at area) subs h.2 lt in
      let none_d = absent_low (times d) r (n + 1 + entries_in beneath) rest (at + own_length i.redefines (whole_length (times d) i beneath)) (begins i.redefines at area) subs h.2 lt in
      let same = head_same (i.number == r) (is_table i.occurs) (greatest_number i) (begins i.redefines at area) (element_length (times c) i beneath) (element_length (times d) i beneath) (times c i) (times d i) subs
      (λ o. place_of (times c) r beneath o o (later (is_table i.occurs) subs)) (λ o. place_of (times d) r beneath o o (later (is_table i.occurs) subs))
      (λ t. let w = limit_whole r i beneath rest (omega (arith, h.0)) t in
      let gl : AgreeBelow (n + 1 + entries_in beneath) c d = λ k lk. g k (omega (arith, w, h.0)) in
      let number : slice_index c i.number ≡ slice_index d i.number = gl i.number (omega (arith, h.0)) in
      let sums = sum_same c d beneath (n + 1) (n + 1 + entries_in beneath) h.1 (omega arith) gl in
      ((λ j. length_by_kind i.kind (sums j)), (λ j. times_by (number j) i.occurs)))
      (λ t o. let ab = above n i.number r h.0 l (same_not i.number r t) in
      let q = limit_more (n + 1) r beneath h.1 ab (omega arith) in
      let inner = limit_inner r i beneath rest (omega (arith, h.0)) (omega (arith, q.1, h.0)) in
      place_by c d beneath (n + 1) r o o _ h.1 ab (omega arith) (λ k lk. g k (omega (arith, inner)))) in
      drop_rest _ _ none_c ∙ same ∙ sym (drop_rest _ _ none_d))
]

pub one_place : OnePlace
one_place c d f r subscripts h a agree =
    place_by c d f 0 r 0 0 subscripts h (omega arith) (high 0 r f h a) (λ k lt.
    let small : k < number_behind true r f = omega (arith, limit_reach r f, lt) in
    let m = reach_le true 0 r f h in
    let there = has_number 0 k f h (omega arith) (omega arith) in
    agree k there (below_needed r k f h a there small))
