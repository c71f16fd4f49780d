-- A place that meets no count: its bytes change, and the counts stay.
use Rattle.std.proofs.Common.{◌≡◌, ◌⊎◌, ℕ, ◌+◌, ◌*◌, ◌≤◌, Bool, true, false, ◌&&◌, ◌==◌, List, [], length, take, drop, Option, Some, refl, sym, ap, ◌∙◌, arith, inl, inr}
use Rattle.std.proofs.lemmas.List.{drop-take, length-drop, length-take-le}
use Rattle.std.proofs.lemmas.Slice.{take-put_mid_below, drop-put_mid}
use borrow.Rule.Slice.PartMut.{same_len_mid}
use Rattle.cob_copybook_tree.specs.Forests.{Forest, NoEntries, AnEntry, entries_in}
use Rattle.cob_copybook_tree.specs.Nodes.{Resolved}
use Rattle.cob_copybook_tree.specs.Lengths.{greatest_number, element_length, whole_length, own_length}
use Rattle.cob_layout.specs.declared.fields.Place.{Place}
use Rattle.cob_layout.specs.Fields.{with_field}
use Rattle.cob_layout_places.specs.declared.places.Found.{Found}
use Rattle.cob_layout_places.specs.declared.spots.Spot.{Spot}
use Rattle.cob_layout_places.specs.Places.{place_of, also, begins, is_table, is_there, later, skipped}
use Rattle.cob_layout_places.specs.Cover.{AreNumbered}
use Rattle.cob_layout_places.specs.Needs.{Has}
use Rattle.cob_layout_places.proofs.CoverLaw.{not_or}
use Rattle.cob_layout.specs.Ways.{spot_at, first_element}
use Rattle.cob_layout.proofs.EndLemmas.{numbered}
use Rattle.cob_layout.proofs.AreaLemmas.{absent, is_same, is_other}
use Rattle.cob_layout.proofs.SpotLaw.{AreSpots, nowhere, found_own, found_kid}

-- ---- bytes beside a place

-- bytes that the place doesn't meet stay
pub beside : (o l : ℕ) (p : Place) (a field : List ℕ) → p.offset + p.length ≤ length a → length field ≡ p.length → (p.offset + p.length ≤ o) ⊎ (o + l ≤ p.offset)
    → take l (drop o a) ≡ take l (drop o (with_field a p field))
beside o l p a field fits long (inl behind) = ap (take l) (sym (drop-put_mid p.offset p.length a field o behind (omega (arith, fits)) long))
beside o l p a field fits long (inr before) =
    sym (drop-take o l a) ∙ ap (drop o) (sym (take-put_mid_below p.offset p.length a field (o + l) before (omega (arith, fits)))) ∙ drop-take o l (with_field a p field)

-- and there are as many
pub as_many_with : (p : Place) (a field : List ℕ) → p.offset + p.length ≤ length a → length field ≡ p.length → length (with_field a p field) ≡ length a
as_many_with p a field fits long =
    same_len_mid p.offset p.length a field (long ∙ sym (length-take-le p.length (drop p.offset a) (omega (arith, fits, length-drop p.offset a))))

-- ---- without subscripts the first element is meant

none_skipped : (b : Bool) (n : ℕ) → skipped b n [] ≡ 0
none_skipped false n = refl
none_skipped true n = refl

none_later : (b : Bool) → later b [] ≡ []
none_later false = refl
none_later true = refl

none_there : (b : Bool) (k : ℕ) → is_there b k [] ≡ true
none_there false k = refl
none_there true k = refl

pub first_found : (c : Resolved → ℕ) (spots : List Spot) (f : Forest Resolved) (n at area r : ℕ) → AreNumbered n f → AreSpots spots c f at area → Has r f → place_of c r f at area [] ≡ Some (first_element spots r)
first_found c spots NoEntries n at area r num sp has = absurd has
first_found c spots (AnEntry e children more) n at area r num sp has =
    let start : ℕ = begins e.redefines at area in
    let size : ℕ = element_length c e children in
    let table : Bool = is_table e.occurs in
    let skip : ℕ = skipped table (greatest_number e) [] in
    let there : Bool = is_there table (c e) [] in
    let inner : List ℕ = later table [] in
    let offset : ℕ = start + skip * size in
    let here : Found = record { offset = offset; length = size; within = there } in
    let next_at : ℕ = at + own_length e.redefines (whole_length c e children) in
    let zero_skip : skip ≡ 0 = none_skipped table (greatest_number e) in
    let offset_is : offset ≡ start = ap (λ (m : ℕ). start + m * size) zero_skip ∙ omega arith in
    let there_is : there ≡ true = none_there table (c e) in
    elim has [
      | inl own ↦ (let spot : spot_at spots r ≡ record { offset = start; length = size; times = c e } = ap (λ (k : ℕ). spot_at spots k) (sym own) ∙ sp.0 nowhere in
          found_own (e.number == r) here (also there (place_of c r children offset offset inner)) (place_of c r more next_at start []) (is_same e.number r own)
          ∙ (λ i. Some (record { offset = offset_is i; length = size; within = there_is i }))
          ∙ ap (λ (s : Spot). Some (record { offset = s.offset; length = s.length; within = true })) (sym spot))
      | inr rest ↦ elim rest [
        | inl kid ↦ (let low = numbered r (n + 1) children num.1 kid in
            let inside : place_of c r children offset offset inner ≡ Some (first_element spots r) =
            ap (λ (ss : List ℕ). place_of c r children offset offset ss) (none_later table) ∙ ap (λ (m : ℕ). place_of c r children m m []) offset_is ∙ first_found c spots children (n + 1) start start r num.1 sp.1 kid in
            found_kid (e.number == r) here there (place_of c r children offset offset inner) (place_of c r more next_at start []) (first_element spots r) (is_other e.number r (λ same. omega (arith, low.0, num.0, same))) inside
            ∙ ap (λ (b : Bool). Some (record { offset = (first_element spots r).offset; length = (first_element spots r).length; within = b && true })) there_is)
        | inr beside ↦ (let low = numbered r (n + 1 + entries_in children) more num.2 beside in
            not_or (e.number == r) here (place_of c r children offset offset inner) (place_of c r more next_at start []) there
            (is_other e.number r (λ same. omega (arith, low.0, num.0, same)))
            (absent c r children offset offset inner (λ k. omega (arith, low.0, (numbered r (n + 1) children num.1 k).1)))
            ∙ first_found c spots more (n + 1 + entries_in children) next_at start r num.2 sp.2 beside)
      ]
    ]

-- ---- one place

pub some_is : (a b : Found) (o : Option Found) → o ≡ Some a → o ≡ Some b → a ≡ b
some_is a b o h k = let e : Some a ≡ Some b = sym h ∙ k in cc
