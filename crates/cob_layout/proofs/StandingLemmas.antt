-- Where references stand, as a layout answers it.
use Rattle.std.proofs.Common.{◌≡◌, ℕ, ◌+◌, ◌*◌, ◌<◌, ◌≤◌, ◌==◌, ◌&&◌, nat_le, Bool, true, false, List, [], ◌∷◌, map, Option, Some, refl, sym, ap, subst, ◌∙◌, arith, inl, inr, Ok, Err, Result}
use Rattle.std.specs.Prelude.{option_map, if◌then◌else◌, IfOk}
use Rattle.std.proofs.lemmas.Bool.Decides.{nat_tests}
use Rattle.cob_copybook_tree.specs.Forests.{Forest, NoEntries, AnEntry, entries_in}
use Rattle.cob_copybook_tree.specs.Nodes.{Resolved}
use Rattle.cob_copybook_tree.specs.Lengths.{greatest_number, element_length, whole_length, own_length, sum_of}
use Rattle.cob_copybook.specs.Books.{IsRecordDescription}
use Rattle.cob_layout.specs.Sound.{IsSound}
use Rattle.cob_layout.specs.declared.fields.Place.{Place}
use Rattle.cob_layout.specs.declared.layout.PlaceFault.{PlaceFault}
use Rattle.cob_layout_places.specs.declared.places.Found.{Found}
use Rattle.cob_layout_places.specs.declared.spots.Spot.{Spot}
use Rattle.cob_layout_places.specs.Lengths.{times}
use Rattle.cob_layout_places.specs.Places.{place_of, begins, is_table, is_there, later, skipped, EndInRecord, EndsBy}
use Rattle.cob_layout_places.specs.Cover.{AreNumbered}
use Rattle.cob_layout_places.specs.References.{IsSubscripted, Refers}
use Rattle.cob_layout_places.specs.Spots.{spots_of}
use Rattle.cob_layout_places.proofs.ForestLemmas.{sum_le, within_always}
use Rattle.cob_layout.specs.declared.ways.Way.{Way}
use Rattle.cob_layout.specs.Counting.{greatest_counts}
use Rattle.cob_layout.specs.Laws.{EndInLength}
use Rattle.cob_layout.specs.Placed.{placed}
use Rattle.cob_layout.specs.Standing.{Standing, AreSomePlaces}
use Rattle.cob_layout.specs.Ways.{held, held_in, held_at, moved, first_element, spot_at}
use Rattle.cob_layout.proofs.ReferenceLemmas.{found_there, refers_has}
use Rattle.cob_layout.proofs.EndLemmas.{numbered, found_has, pick, some_is, differs, same, current}
use Rattle.cob_layout.proofs.GreatestLemmas.{are_greatest}
use Rattle.cob_copybook.specs.Bytes.{TakeBytes}
use Rattle.cob_layout.proofs.RecordLemmas.{length_is, length_small}
use Rattle.cob_layout.proofs.ByteLemmas.{length_some}
use Rattle.cob_layout.proofs.SpotLaw.{stands_moved}

-- ---- where an element stands

-- under these counts the reference stands where its element is moved to
pub element_is : (t u : Forest Resolved) (counts : List ℕ) (spots : List Spot) (ways : List Way) (r : ℕ) (subscripts : List ℕ) → IsSound t → t ≡ u → map held ways ≡ held_in [] t → Refers r subscripts u
    → spots ≡ spots_of (times counts) u 0 0 → place_of (times counts) r u 0 0 subscripts ≡ Some (moved spots (held_at (map held ways) r).tables subscripts (first_element spots r))
element_is t u counts spots ways r subscripts s eq held_are refers are =
    stands_moved (times counts) u spots (map held ways) r subscripts (record { tables = []; end = 0 }) (subst (λ (v : Forest Resolved). AreNumbered 0 v) eq s.numbered) are
    (held_are ∙ ap (λ (v : Forest Resolved). held_in [] v) eq) refers

abbrev Ends : ℕ → Option Found → Type 0
Ends m o = EndsBy m o

ends_by : (m : ℕ) (o : Option Found) (f : Found) → o ≡ Some f → Ends m o → f.offset + f.length ≤ m
ends_by m o f e h = subst (Ends m) e h

-- and this lies within the longest record
pub element_fits : EndInRecord → (t u : Forest Resolved) (counts : List ℕ) (r : ℕ) (subscripts : List ℕ) (f : Found) → IsSound t → t ≡ u → place_of (times counts) r u 0 0 subscripts ≡ Some f → f.offset + f.length ≤ 32752
element_fits law t u counts r subscripts f s eq is =
    let sound : IsSound u = subst IsSound eq s in
    let h = ends_by (0 + sum_of greatest_number u) (place_of (times counts) r u 0 0 subscripts) f is (law counts r u 0 subscripts sound.fit) in
    omega (arith, h, sound.fit.small)

-- ---- under greatest counts each element that a reference names is there

there_most : (b : Bool) (n : ℕ) (subscripts : List ℕ) → IsSubscripted b n subscripts → is_there b n subscripts ≡ true
there_most false n subscripts h = refl
there_most true n [] h = absurd h
there_most true n (s ∷ subscripts) h = yes_ s n h.1
  where
    yes_ : (s n : ℕ) → s ≤ n → nat_le s n ≡ true
    yes_ s n h = grind (arith, nat_tests)

and_both : (a b : Bool) → a ≡ true → b ≡ true → (a && b) ≡ true
and_both a b e f = rw (e, f) refl

all_within : (r : ℕ) (f : Forest Resolved) (n at area : ℕ) (subscripts : List ℕ) (p : Found) → AreNumbered n f → Refers r subscripts f → place_of greatest_number r f at area subscripts ≡ Some p → p.within ≡ true
all_within r NoEntries n at area subscripts p num refers is = absurd refers
all_within r (AnEntry e children more) n at area subscripts p num refers is =
    let start : ℕ = begins e.redefines at area in
    let table : Bool = is_table e.occurs in
    let size : ℕ = element_length greatest_number e children in
    let offset : ℕ = start + skipped table (greatest_number e) subscripts * size in
    let there : Bool = is_there table (greatest_number e) subscripts in
    let inner : List ℕ = later table subscripts in
    let next_at : ℕ = at + own_length e.redefines (whole_length greatest_number e children) in
    elim (pick (e.number == r) (record { offset = offset; length = size; within = there }) there (place_of greatest_number r children offset offset inner) (place_of greatest_number r more next_at start subscripts) p is) [
      | inl h ↦ (let this : e.number ≡ r = same e.number r h.0 in
          elim refers [
            | inl s ↦ sym (ap (λ (x : Found). x.within) h.1) ∙ there_most table (greatest_number e) subscripts s.0
            | inr beside ↦ absurd (omega (arith, (numbered r (n + 1 + entries_in children) more num.2 (refers_has r subscripts more beside)).0, num.0, this))
          ])
      | inr rest ↦ elim rest [
        | inl h ↦ (let found : Found = h.0 in
            let is_p : record { offset = found.offset; length = found.length; within = there && found.within } ≡ p = some_is (record { offset = found.offset; length = found.length; within = there && found.within }) p h.3 in
            elim refers [
              | inl s ↦ elim (s.1) [
                | inl own ↦ absurd (differs e.number r h.1 own.0)
                | inr inside ↦ sym (ap (λ (x : Found). x.within) is_p) ∙ and_both there found.within (there_most table (greatest_number e) subscripts s.0) (all_within r children (n + 1) offset offset inner found num.1 inside h.2)
              ]
              | inr beside ↦ (let a = numbered r (n + 1) children num.1 (found_has greatest_number r children offset offset inner found h.2) in
                  let b = numbered r (n + 1 + entries_in children) more num.2 (refers_has r subscripts more beside) in
                  absurd (omega (arith, a.1, b.0)))
            ])
        | inr h ↦ elim refers [
          | inl s ↦ elim (s.1) [
            | inl own ↦ absurd (differs e.number r h.0 own.0)
            | inr inside ↦ absurd (found_there greatest_number r children offset offset inner (refers_has r inner children inside) h.1)
          ]
          | inr beside ↦ all_within r more (n + 1 + entries_in children) next_at start subscripts p num.2 beside h.2
        ]
      ]
    ]

pub greatest_within : (t u : Forest Resolved) (r : ℕ) (subscripts : List ℕ) (p : Found) → IsSound t → t ≡ u → Refers r subscripts u → place_of (times (greatest_counts u)) r u 0 0 subscripts ≡ Some p → p.within ≡ true
greatest_within t u r subscripts p s eq refers is =
    let num : AreNumbered 0 u = subst (λ (v : Forest Resolved). AreNumbered 0 v) eq s.numbered in
    all_within r u 0 0 0 subscripts p num refers (sym ((are_greatest u (greatest_counts u) num refl).places r subscripts) ∙ is)

-- ---- the answer

pub answer : (o : Option Found) (f : Found) (r : Result Place PlaceFault) → o ≡ Some f → r ≡ placed f → option_map placed o ≡ Some r
answer o f r is e = ap (option_map placed) is ∙ ap (λ (x : Result Place PlaceFault). Some x) (sym e)

pub answer_current : EndInLength → (t u : Forest Resolved) (counts : List ℕ) (r : ℕ) (subscripts : List ℕ) (f : Found) (result : Result Place PlaceFault) → IsRecordDescription t → t ≡ u → Refers r subscripts u
    → place_of (times counts) r u 0 0 subscripts ≡ Some f → result ≡ placed f → IfOk result (λ p. p.offset + p.length ≤ sum_of (times counts) u)
answer_current law t u counts r subscripts f result is eq refers at e =
    current law t u counts counts r subscripts subscripts f result is eq refers refl refl (subst (λ (v : Forest Resolved). place_of (times counts) r v 0 0 subscripts ≡ Some f) (sym eq) at) e

abbrev FitsIn : ℕ → Result Place PlaceFault → Type 0
FitsIn m result = IfOk result (λ p. p.offset + p.length ≤ m)

still : (a b : ℕ) (result : Result Place PlaceFault) → a ≤ b → FitsIn a result → FitsIn b result
still a b (Ok p) le h = omega (arith, le, h)
still a b (Err e) le h = tt

pub most_fits : (u : Forest Resolved) (counts : List ℕ) (result : Result Place PlaceFault) → IfOk result (λ p. p.offset + p.length ≤ sum_of (times counts) u) → IfOk result (λ p. p.offset + p.length ≤ sum_of greatest_number u)
most_fits u counts result h = still (sum_of (times counts) u) (sum_of greatest_number u) result (sum_le (times counts) u (within_always counts u)) h

pub answer_fits : EndInLength → (t u : Forest Resolved) (counts : List ℕ) (r : ℕ) (subscripts : List ℕ) (f : Found) (result : Result Place PlaceFault) → IsRecordDescription t → t ≡ u → Refers r subscripts u
    → place_of (times counts) r u 0 0 subscripts ≡ Some f → result ≡ placed f → IfOk result (λ p. p.offset + p.length ≤ sum_of greatest_number u)
answer_fits law t u counts r subscripts f result is eq refers at e =
    most_fits u counts result (answer_current law t u counts r subscripts f result is eq refers at e)

-- the entries stand as they do under the counts
pub own_spots : (u : Forest Resolved) (standing : Standing) → AreSomePlaces u standing → standing.spots ≡ spots_of (times standing.counts) u 0 0
own_spots u standing (counts, are) = are.1 ∙ ap (λ (cs : List ℕ). spots_of (times cs) u 0 0) (sym are.0)

-- a place that is there is no fault
pub no_fault : (f : Found) (fault : PlaceFault) → f.within ≡ true → placed f ≡ Err fault → ⊥
no_fault f fault there is = by f.within there is
  where
    by : (b : Bool) → b ≡ true → if◌then◌else◌ {A = Result Place PlaceFault} b (Ok record { offset = f.offset; length = f.length }) (Err record { offset = f.offset }) ≡ Err fault → ⊥
    by true there is = cc
    by false there is = cc

-- ---- the length

-- what the spot of the record says of its length
pub record Lengthy (t : Forest Resolved) (counts : List ℕ) (n : ℕ) : Type 0 where
  pub is : n ≡ sum_of (times counts) t
  pub least : 0 < n
  pub most : n ≤ sum_of greatest_number t
  pub small : n ≤ 32752

pub length_by : (u : Forest Resolved) (standing : Standing) (spots : List Spot) (own : Spot) → IsSound u → TakeBytes u → AreSomePlaces u standing → spots ≡ standing.spots → own ≡ spot_at spots 0
    → Lengthy u standing.counts (own.times * own.length)
length_by NoEntries standing spots own s bytes are same is = absurd s.first
length_by (AnEntry e b (AnEntry d kids more)) standing spots own s bytes are same is = absurd s.first
length_by (AnEntry e b NoEntries) standing spots own s bytes are same is =
    let u = AnEntry e b NoEntries in
    let counts = standing.counts in
    let first : own ≡ record { offset = begins e.redefines 0 0; length = element_length (times counts) e b; times = times counts e } = is ∙ ap (λ (zs : List Spot). spot_at zs 0) (same ∙ own_spots u standing are) in
    let all : own.times * own.length ≡ sum_of (times counts) u =
    ap (λ (x : Spot). x.times * x.length) first ∙ length_is counts e b (times counts e) (element_length (times counts) e b) s refl refl in
    record {
      is = all;
      least = omega (arith, all, length_some counts u u s bytes refl);
      most = omega (arith, all, sum_le (times counts) u (within_always counts u));
      small = omega (arith, ap (λ (x : Spot). x.times * x.length) first, length_small counts e b (times counts e) (element_length (times counts) e b) s refl refl);
    }
