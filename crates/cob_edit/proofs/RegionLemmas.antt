-- Lemmas on the region and the sign of numeric edited pictures.
use Rattle.std.proofs.Common.{◌≡◌, ℕ, ◌<◌, ◌≤◌, Bool, true, false, not, ◌||◌, ◌⊎◌, inl, inr, List, length, drop, get_or, refl, sym, ap, subst, ◌∙◌, arith}
use Rattle.std.specs.List.{prefix_len}
use Rattle.std.proofs.lemmas.List.Sums.{prefix_len_passes, prefix_len_stops, prefix_len-drop_all, prefix_len-drop_no}
use Rattle.std.proofs.lemmas.List.{get_or-drop, length-drop}
use Rattle.std.proofs.lemmas.Bool.{cases_lt}
use Rattle.cob_edit.specs.declared.place.EditedPlace.{EditedPlace}
use Rattle.cob_edit.specs.declared.place.EditedPlace.TheVariants.{Inserted, Point, Digit, Suppressed, Floating, First, Fixed, AssumedPoint}
use Rattle.cob_edit.specs.Places.{is_run, is_run_or_insertion, is_point_place}
use Rattle.cob_edit.specs.Editing.{place_at, region_start, region_end}
use Rattle.cob_edit.specs.Regions.{is_insertion, IsOfRun, IsRegion, HasRegion, OneRegion}
use Rattle.cob_edit.proofs.EditingLemmas.{region_run, region_inside}

-- ---- one place

run_or_insertion : (p : EditedPlace) → is_run_or_insertion p ≡ true → (is_run p ≡ true) ⊎ (is_insertion p ≡ true)
run_or_insertion (Inserted b) h = inr refl
run_or_insertion (Suppressed f) h = inl refl
run_or_insertion Floating h = inl refl
run_or_insertion (First m) h = inl refl
run_or_insertion Digit h = inl h
run_or_insertion Point h = inl h
run_or_insertion (Fixed m) h = inl h
run_or_insertion AssumedPoint h = inl h

neither : (p : EditedPlace) → is_run_or_insertion p ≡ false → is_insertion p ≡ false
neither (Inserted b) h = h
neither (Suppressed f) h = refl
neither Floating h = refl
neither (First m) h = refl
neither Digit h = refl
neither Point h = refl
neither (Fixed m) h = refl
neither AssumedPoint h = refl

insertion_no_point : (p : EditedPlace) → is_insertion p ≡ true → is_point_place p ≡ false
insertion_no_point (Inserted b) h = refl
insertion_no_point (Suppressed f) h = refl
insertion_no_point Floating h = refl
insertion_no_point (First m) h = refl
insertion_no_point Digit h = refl
insertion_no_point Point h = sym h
insertion_no_point (Fixed m) h = refl
insertion_no_point AssumedPoint h = sym h

run_no_point : (p : EditedPlace) → is_run p ≡ true → is_point_place p ≡ false
run_no_point (Inserted b) h = refl
run_no_point (Suppressed f) h = refl
run_no_point Floating h = refl
run_no_point (First m) h = refl
run_no_point Digit h = refl
run_no_point Point h = sym h
run_no_point (Fixed m) h = refl
run_no_point AssumedPoint h = sym h

point_ends : (p : EditedPlace) → is_point_place p ≡ true → is_run_or_insertion p ≡ false
point_ends (Inserted b) h = sym h
point_ends (Suppressed f) h = sym h
point_ends Floating h = sym h
point_ends (First m) h = sym h
point_ends Digit h = refl
point_ends Point h = refl
point_ends (Fixed m) h = refl
point_ends AssumedPoint h = refl

-- a place that is neither of the run nor a point
abbrev pub is_still : EditedPlace → Bool
is_still p = not (is_run p || is_point_place p)

still_parts : (a b : Bool) → not (a || b) ≡ true → (a ≡ false) × (b ≡ false)
still_parts true b h = (sym h, absurd (no b h))
  where
    no : (b : Bool) → not (true || b) ≡ true → ⊥
    no true h = let x : false ≡ true = h in cc
    no false h = let x : false ≡ true = h in cc
still_parts false true h = (refl, sym h)
still_parts false false h = (refl, refl)

not_still : (a b : Bool) → not (a || b) ≡ false → b ≡ false → a ≡ true
not_still true b h e = refl
not_still false true h e = sym e
not_still false false h e = sym h

-- ---- the region begins where the run does

-- no place before the region is of the run
none_before : (ps : List EditedPlace) (j : ℕ) → is_run (place_at ps j) ≡ true → region_start ps ≤ j
none_before ps j run =
    elim (cases_lt j (region_start ps)) [
      | inl lt ↦
          let still : is_still (place_at ps j) ≡ true = prefix_len_passes is_still ps j (Inserted 0) lt in
          let no : is_run (place_at ps j) ≡ false = (still_parts (is_run (place_at ps j)) (is_point_place (place_at ps j)) still).0 in
          absurd (cc)
      | inr ge ↦ ge
    ]

before_left : (ps : List EditedPlace) (k : ℕ) → k < region_start ps → is_point_place (place_at ps k) ≡ false
before_left ps k lt = (still_parts (is_run (place_at ps k)) (is_point_place (place_at ps k)) (prefix_len_passes is_still ps k (Inserted 0) lt)).1

-- where a symbol of the run stands left of the point, the region begins at the first of them
begins : (ps : List EditedPlace) (j : ℕ) → IsOfRun ps j → IsOfRun ps (region_start ps)
begins ps j h =
    let s : ℕ = region_start ps in
    let low : s ≤ j = none_before ps j h.run in
    let inside : s < length ps = omega (arith, h.inside) in
    let stop : is_still (place_at ps s) ≡ false = prefix_len_stops is_still ps (Inserted 0) inside in
    record {
      inside = inside;
      run = not_still (is_run (place_at ps s)) (is_point_place (place_at ps s)) stop (h.left s low);
      left = λ k le. h.left k (omega arith);
    }

-- where none does, there is no region
empty : (ps : List EditedPlace) → ((j : ℕ) → IsOfRun ps j → ⊥) → region_end ps ≡ region_start ps
empty ps none =
    let s : ℕ = region_start ps in
    elim (cases_lt s (length ps)) [
      | inr past ↦ omega (arith, prefix_len-drop_all is_run_or_insertion ps s past)
      | inl inside ↦ at (is_point_place (place_at ps s)) refl inside
    ]
  where
    at : (b : Bool) → is_point_place (place_at ps (region_start ps)) ≡ b → region_start ps < length ps → region_end ps ≡ region_start ps
    at true e inside = omega (arith, prefix_len-drop_no is_run_or_insertion ps (region_start ps) (Inserted 0) inside (point_ends (place_at ps (region_start ps)) e))
    at false e inside =
        let s : ℕ = region_start ps in
        let stop : is_still (place_at ps s) ≡ false = prefix_len_stops is_still ps (Inserted 0) inside in
        absurd (none s (record {
          inside = inside;
          run = not_still (is_run (place_at ps s)) (is_point_place (place_at ps s)) stop e;
          left = λ k le. elim (cases_lt k s) [ inl lt ↦ before_left ps k lt | inr ge ↦ let same : s ≡ k = omega arith in subst (λ i. is_point_place (place_at ps i) ≡ false) same e ];
        }))

-- ---- the region has what stands left of the point

-- each symbol of the run left of the point is in the region
abbrev pub AreWithin : List EditedPlace → Type 0
AreWithin ps = (j : ℕ) → IsOfRun ps j → j < region_end ps

region_ends : (ps : List EditedPlace) → region_end ps < length ps → is_insertion (place_at ps (region_end ps)) ≡ false
region_ends ps inside =
    let s : ℕ = region_start ps in
    let n : ℕ = prefix_len is_run_or_insertion (drop s ps) in
    let few : n < length (drop s ps) = omega (arith, length-drop s ps) in
    let stop : is_run_or_insertion (get_or (drop s ps) n (Inserted 0)) ≡ false = prefix_len_stops is_run_or_insertion (drop s ps) (Inserted 0) few in
    neither (place_at ps (region_end ps)) (ap is_run_or_insertion (sym (get_or-drop s ps n (Inserted 0))) ∙ stop)

pub has_region : (ps : List EditedPlace) → AreWithin ps → HasRegion ps
has_region ps within = record {
  some = λ j h. record {
    inside = region_inside ps;
    first = begins ps j h;
    all = λ i g. (none_before ps i g.run, within i g);
    only = λ i low high. run_or_insertion (place_at ps i) (region_run ps i low high);
    ends = region_ends ps;
  };
  none = empty ps;
}

-- ---- places have one region

region_left : (ps : List EditedPlace) (from behind j : ℕ) → IsRegion ps from behind → j < behind → is_point_place (place_at ps j) ≡ false
region_left ps from behind j r high =
    elim (cases_lt from j) [
      | inr before ↦ r.first.left j before
      | inl low ↦ elim (r.only j (omega arith) high) [ inl run ↦ run_no_point (place_at ps j) run | inr between ↦ insertion_no_point (place_at ps j) between ]
    ]

no_longer : (ps : List EditedPlace) (from other behind past : ℕ) → from ≡ other → IsRegion ps from behind → IsRegion ps other past → behind < past → ⊥
no_longer ps from other behind past same r q lt =
    let start : from < behind = (r.all from r.first).1 in
    elim (q.only behind (omega arith) lt) [
      | inl run ↦
          let again : IsOfRun ps behind = record { inside = omega (arith, q.inside); run = run; left = λ k le. region_left ps other past k q (omega arith) } in
          omega (arith, (r.all behind again).1)
      | inr between ↦ let no : is_insertion (place_at ps behind) ≡ false = r.ends (omega (arith, q.inside)) in absurd (cc)
    ]

pub one_region : OneRegion
one_region ps from other behind past r q =
    let same : from ≡ other = omega (arith, (r.all other q.first).0, (q.all from r.first).0) in (
      same,
      elim (cases_lt behind past) [
        | inl lt ↦ absurd (no_longer ps from other behind past same r q lt)
        | inr ge ↦ elim (cases_lt past behind) [ inl lt ↦ absurd (no_longer ps other from past behind (sym same) q r lt) | inr le ↦ omega arith ]
      ],
    )
