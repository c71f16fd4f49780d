-- Elements that are there end within the length under the same counts.
use Rattle.std.proofs.Common.{◌≡◌, ◌⊎◌, ℕ, ◌+◌, ◌-◌, ◌*◌, ◌<◌, ◌≤◌, ◌==◌, Bool, true, false, ◌&&◌, nat_le, min, List, [], ◌∷◌, Option, Some, None, refl, sym, ap, subst, ◌∙◌, arith, inl, inr, Result}
use Rattle.std.specs.Prelude.{IfOk}
use Rattle.std.proofs.lemmas.Bool.Decides.{nat_tests}
use Rattle.cob_copybook_tree.specs.declared.node.Kind.{Kind}
use Rattle.cob_copybook_tree.specs.declared.node.Kind.TheVariants.{Group, Item as ItemKind}
use Rattle.cob_copybook_tree.specs.Forests.{Forest, NoEntries, AnEntry, entries_in}
use Rattle.cob_copybook_tree.specs.Nodes.{Resolved, MayHold}
use Rattle.cob_copybook_tree.specs.Lengths.{greatest_number, length_by_kind, own_length, element_length, whole_length, sum_of}
use Rattle.cob_layout_places.specs.declared.places.Found.{Found}
use Rattle.cob_layout_places.specs.Lengths.{area_by, times, AreLeaves}
use Rattle.cob_layout_places.specs.Places.{place_of, or_else, choose, also, begins, is_table, is_there, later, skipped}
use Rattle.cob_layout_places.specs.Cover.{AreNumbered, CountsOccurrences}
use Rattle.cob_layout_places.specs.Needs.{Has}
use Rattle.cob_layout_places.proofs.CoverLaw.{counted}
use Rattle.cob_copybook.specs.Books.{IsRecordDescription}
use Rattle.cob_layout.specs.Sound.{RecordsAreSound}
use Rattle.cob_layout.specs.declared.fields.Place.{Place}
use Rattle.cob_layout.specs.declared.layout.PlaceFault.{PlaceFault}
use Rattle.cob_layout_places.specs.References.{IsSubscripted, Refers}
use Rattle.cob_layout.specs.Placed.{placed}
use Rattle.cob_layout.proofs.ReferenceLemmas.{found_there, refers_has}
use Rattle.cob_layout.specs.Laws.{EndInLength}
use Rattle.cob_layout.proofs.SteadyLemmas.{AreInAreasBy, areas_by}

pub some_is : {A : Type 0} (a b : A) → Some a ≡ Some b → a ≡ b
some_is a b e = cc

pub pick : (b : Bool) (here : Found) (there : Bool) (fk fm : Option Found) (p : Found) → or_else (choose b here (also there fk)) fm ≡ Some p
    → ((b ≡ true) × (here ≡ p)) ⊎ (((f : Found) × (b ≡ false) × (fk ≡ Some f) × (also there (Some f) ≡ Some p)) ⊎ ((b ≡ false) × (fk ≡ None) × (fm ≡ Some p)))
pick true here there fk fm p e = inl (refl, some_is here p e)
pick false here there None fm p e = inr (inr (refl, refl, e))
pick false here there (Some f) fm p e = inr (inl (f, refl, refl, e))

-- numbers of entries
pub numbered : (r n : ℕ) (f : Forest Resolved) → AreNumbered n f → Has r f → (n ≤ r) × (r < n + entries_in f)
numbered r n NoEntries a h = absurd h
numbered r n (AnEntry e children more) a (inl h) = (omega (arith, a.0, h), omega (arith, a.0, h))
numbered r n (AnEntry e children more) a (inr (inl h)) = let k = numbered r (n + 1) children a.1 h in (omega (arith, k.0), omega (arith, k.1))
numbered r n (AnEntry e children more) a (inr (inr h)) = let k = numbered r (n + 1 + entries_in children) more a.2 h in (omega (arith, k.0), omega (arith, k.1))

pub same : (a b : ℕ) → (a == b) ≡ true → a ≡ b
same a b e = grind (arith, nat_tests)

pub differs : (a b : ℕ) → (a == b) ≡ false → a ≡ b → ⊥
differs a b h e = grind (arith, nat_tests)

-- what is found is there
pub found_has : (c : Resolved → ℕ) (r : ℕ) (f : Forest Resolved) (at area : ℕ) (subscripts : List ℕ) (p : Found) → place_of c r f at area subscripts ≡ Some p → Has r f
found_has c r NoEntries at area subscripts p is = cc
found_has c r (AnEntry e children more) at area subscripts p is =
    let start : ℕ = begins e.redefines at area in
    let offset : ℕ = start + skipped (is_table e.occurs) (greatest_number e) subscripts * element_length c e children in
    let there : Bool = is_there (is_table e.occurs) (c e) subscripts in
    let inner : List ℕ = later (is_table e.occurs) subscripts in
    let next_at : ℕ = at + own_length e.redefines (whole_length c e children) in
    elim (pick (e.number == r) (record { offset = offset; length = element_length c e children; within = there }) there (place_of c r children offset offset inner) (place_of c r more next_at start subscripts) p is) [
      | inl h ↦ inl (same e.number r h.0)
      | inr rest ↦ elim rest [
        | inl h ↦ inr (inl (found_has c r children offset offset inner h.0 h.2))
        | inr h ↦ inr (inr (found_has c r more next_at start subscripts p h.2))
      ]
    ]

-- ---- arithmetic

product : (x k g : ℕ) → x + 1 ≤ k → x * g + g ≤ k * g
product x k g le = grind arith

at_most : (s k : ℕ) → nat_le s k ≡ true → s ≤ k
at_most s k e = grind (arith, nat_tests)

element_in : (t : Bool) (n k g : ℕ) (subscripts : List ℕ) → IsSubscripted t n subscripts → is_there t k subscripts ≡ true → (t ≡ false → k ≡ 1) → skipped t n subscripts * g + g ≤ k * g
element_in false n k g subscripts s there once = product 0 k g (omega (arith, once refl))
element_in true n k g [] s there once = absurd s
element_in true n k g (x ∷ subscripts) s there once = product (min (x - 1) (n - 1)) k g (omega (arith, at_most x k there, s.0))

first_fits : (o : Option (List ℕ)) (at area space w sum m : ℕ) → w ≤ area_by o space w → at + (own_length o w + sum) ≤ m → area + space ≤ m → begins o at area + w ≤ m
first_fits None at area space w sum m le fits ok = omega (arith, fits)
first_fits (Some name) at area space w sum m le fits ok = omega (arith, le, ok)

after_fits : (o : Option (List ℕ)) (at area space w sum m : ℕ) → at + (own_length o w + sum) ≤ m → area + space ≤ m → begins o at area + area_by o space w ≤ m
after_fits None at area space w sum m fits ok = omega (arith, fits)
after_fits (Some name) at area space w sum m fits ok = omega (arith, ok)

beneath : (c : Resolved → ℕ) (k : Kind) (children : Forest Resolved) → MayHold k children → sum_of c children ≤ length_by_kind k (sum_of c children)
beneath c Group children leaf = omega arith
beneath c (ItemKind i) NoEntries leaf = omega arith
beneath c (ItemKind i) (AnEntry e children more) leaf = absurd leaf

pub both : (a b : Bool) → (a && b) ≡ true → (a ≡ true) × (b ≡ true)
both true true e = (refl, refl)
both true false e = cc
both false b e = cc

-- ---- a place

ends : (c : Resolved → ℕ) (r : ℕ) (f : Forest Resolved) (n at area space m : ℕ) (subscripts : List ℕ) (p : Found) → CountsOccurrences c → AreNumbered n f → AreLeaves f → AreInAreasBy c space f → Refers r subscripts f
    → at + sum_of c f ≤ m → area + space ≤ m → place_of c r f at area subscripts ≡ Some p → p.within ≡ true → p.offset + p.length ≤ m
ends c r NoEntries n at area space m subscripts p times num leaves areas ref fits ok is within = absurd ref
ends c r (AnEntry e children more) n at area space m subscripts p times num leaves areas ref fits ok is within =
    let start : ℕ = begins e.redefines at area in
    let table : Bool = is_table e.occurs in
    let size : ℕ = element_length c e children in
    let w : ℕ = whole_length c e children in
    let offset : ℕ = start + skipped table (greatest_number e) subscripts * size in
    let there : Bool = is_there table (c e) subscripts in
    let inner : List ℕ = later table subscripts in
    let next_at : ℕ = at + own_length e.redefines w in
    let first : start + w ≤ m = first_fits e.redefines at area space w (sum_of c more) m areas.0 fits ok in
    let here : IsSubscripted table (greatest_number e) subscripts → there ≡ true → offset + size ≤ m =
    (λ s t. omega (arith, first, element_in table (greatest_number e) (c e) size subscripts s t (times.once e))) in
    elim (pick (e.number == r) (record { offset = offset; length = size; within = there }) there (place_of c r children offset offset inner) (place_of c r more next_at start subscripts) p is) [
      | inl h ↦
          let at_p : offset + size ≡ p.offset + p.length = ap (λ (x : Found). x.offset + x.length) h.1 in
          let t : there ≡ true = ap (λ (x : Found). x.within) h.1 ∙ within in
          let this : e.number ≡ r = same e.number r h.0 in
          elim ref [
            | inl s ↦ omega (arith, here s.0 t, at_p)
            | inr beside ↦ absurd (omega (arith, (numbered r (n + 1 + entries_in children) more num.2 (refers_has r subscripts more beside)).0, num.0, this))
          ]
      | inr rest ↦ elim rest [
        | inl h ↦
            let found : Found = h.0 in
            let is_p : record { offset = found.offset; length = found.length; within = there && found.within } ≡ p = some_is (record { offset = found.offset; length = found.length; within = there && found.within }) p h.3 in
            let at_p : found.offset + found.length ≡ p.offset + p.length = ap (λ (x : Found). x.offset + x.length) is_p in
            let t : (there ≡ true) × (found.within ≡ true) = both there found.within (ap (λ (x : Found). x.within) is_p ∙ within) in
            elim ref [
              | inl s ↦ elim (s.1) [
                | inl own ↦ absurd (differs e.number r h.1 own.0)
                | inr inside ↦
                    let room_in : offset + sum_of c children ≤ m = omega (arith, here s.0 t.0, beneath c e.kind children leaves.0) in
                    omega (arith, at_p, ends c r children (n + 1) offset offset 0 m inner found times num.1 leaves.1 areas.1 inside room_in (omega (arith, room_in)) h.2 t.1)
              ]
              | inr beside ↦
                  let a = numbered r (n + 1) children num.1 (found_has c r children offset offset inner found h.2) in
                  let b = numbered r (n + 1 + entries_in children) more num.2 (refers_has r subscripts more beside) in
                  absurd (omega (arith, a.1, b.0))
            ]
        | inr h ↦ elim ref [
          | inl s ↦ elim (s.1) [
            | inl own ↦ absurd (differs e.number r h.0 own.0)
            | inr inside ↦ absurd (found_there c r children offset offset inner (refers_has r inner children inside) h.1)
          ]
          | inr beside ↦
              ends c r more (n + 1 + entries_in children) next_at start (area_by e.redefines space w) m subscripts p times num.2 leaves.2 areas.2 beside (omega (arith, fits))
              (after_fits e.redefines at area space w (sum_of c more) m fits ok) h.2 within
        ]
      ]
    ]

pub end_in_length : RecordsAreSound → EndInLength
end_in_length sound t counts r subscripts found is refers at there =
    let s = sound t is in
    let areas : AreInAreasBy (times counts) 0 t = areas_by counts t [] 0 s.areas tt in
    ends (times counts) r t 0 0 0 0 (sum_of (times counts) t) subscripts found (counted counts) s.numbered s.fit.leaves areas refers (omega arith) (omega arith) at there

-- ---- the answer

answered : (b : Bool) (f : Found) (m : ℕ) → f.within ≡ b → (f.within ≡ true → f.offset + f.length ≤ m) → IfOk (placed f) (λ p. p.offset + p.length ≤ m)
answered true f m e h = rw e (h e)
answered false f m e h = rw e tt

-- a place that is answered ends within the length
pub current : EndInLength → (t u : Forest Resolved) (counts cs : List ℕ) (r : ℕ) (subscripts ss : List ℕ) (found : Found) (result : Result Place PlaceFault) → IsRecordDescription t → t ≡ u
    → Refers r subscripts u → cs ≡ counts → ss ≡ subscripts → place_of (times cs) r t 0 0 ss ≡ Some found → result ≡ placed found
    → IfOk result (λ p. p.offset + p.length ≤ sum_of (times counts) u)
current law t u counts cs r subscripts ss found result is same refers same_counts same_subscripts at answer =
    let first = subst (λ (k : List ℕ). place_of (times k) r t 0 0 ss ≡ Some found) same_counts at in
    let second = subst (λ (k : List ℕ). place_of (times counts) r t 0 0 k ≡ Some found) same_subscripts first in
    let third = subst (λ (v : Forest Resolved). place_of (times counts) r v 0 0 subscripts ≡ Some found) same second in
    let ends = law u counts r subscripts found (subst (λ (v : Forest Resolved). IsRecordDescription v) same is) refers third in
    subst (λ (q : Result Place PlaceFault). IfOk q (λ p. p.offset + p.length ≤ sum_of (times counts) u)) (sym answer) (answered found.within found (sum_of (times counts) u) refl ends)
