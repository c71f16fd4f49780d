-- What a reference to an entry of a record gives.
use Rattle.std.proofs.Common.{◌≡◌, ℕ, ◌+◌, ◌<◌, ◌==◌, List, [], Bool, true, false, refl, arith, Option, Some, None, inl, inr, ◌⊎◌}
use Rattle.std.proofs.lemmas.Bool.Decides.{nat_tests}
use Rattle.cob_copybook_tree.specs.Forests.{Forest, NoEntries, AnEntry, entries_in}
use Rattle.cob_copybook_tree.specs.Nodes.{Resolved}
use Rattle.cob_layout_places.specs.declared.places.Found.{Found}
use Rattle.cob_layout_places.specs.Places.{place_of, or_else, choose, also, is_table, later}
use Rattle.cob_layout_places.specs.Cover.{AreNumbered}
use Rattle.cob_layout_places.specs.Needs.{Has}
use Rattle.cob_layout_places.specs.References.{Refers}

abbrev Ends : ℕ → Resolved → List ℕ → Type 0
Ends r e rest = (e.number ≡ r) × (rest ≡ [])

beneath : (r : ℕ) (e : Resolved) (children more : Forest Resolved) (rest : List ℕ) → (Ends r e rest ⊎ Refers r rest children) → (Refers r rest children → Has r children) → Has r (AnEntry e children more)
beneath r e children more rest (inl h) go = inl h.0
beneath r e children more rest (inr h) go = inr (inl (go h))

-- the entry is one of the record's
pub refers_has : (r : ℕ) (subscripts : List ℕ) (f : Forest Resolved) → Refers r subscripts f → Has r f
refers_has r subscripts NoEntries h = h
refers_has r subscripts (AnEntry e children more) (inl h) = beneath r e children more (later (is_table e.occurs) subscripts) h.1 (refers_has r (later (is_table e.occurs) subscripts) children)
refers_has r subscripts (AnEntry e children more) (inr h) = inr (inr (refers_has r subscripts more h))

where_none : (o p : Option Found) → or_else o p ≡ None → (o ≡ None) × (p ≡ None)
where_none None p h = (refl, h)
where_none (Some f) p h = absurd (cc)

also_none : (b : Bool) (o : Option Found) → also b o ≡ None → o ≡ None
also_none b None h = refl
also_none b (Some f) h = absurd (cc)

chosen_none : (b : Bool) (f : Found) (o : Option Found) → choose b f o ≡ None → (b ≡ false) × (o ≡ None)
chosen_none false f o h = (refl, h)
chosen_none true f o h = absurd (cc)

differs : (a b : ℕ) → (a == b) ≡ false → a ≡ b → ⊥
differs a b h e = grind (arith, nat_tests)

-- an entry of a record has a place
pub found_there : (c : Resolved → ℕ) (r : ℕ) (f : Forest Resolved) (at area : ℕ) (subscripts : List ℕ) → Has r f → place_of c r f at area subscripts ≡ None → ⊥
found_there c r NoEntries at area subscripts h n = h
found_there c r (AnEntry e children more) at area subscripts (inl h) n =
    let first = where_none _ _ n in
    differs e.number r (chosen_none _ _ _ first.0).0 h
found_there c r (AnEntry e children more) at area subscripts (inr (inl h)) n =
    let first = where_none _ _ n in
    found_there c r children _ _ _ h (also_none _ _ (chosen_none _ _ _ first.0).1)
found_there c r (AnEntry e children more) at area subscripts (inr (inr h)) n =
    found_there c r more _ _ _ h (where_none _ _ n).1

-- its number is below the number of entries
pub has_below : (n r : ℕ) (f : Forest Resolved) → AreNumbered n f → Has r f → r < n + entries_in f
has_below n r NoEntries h k = absurd k
has_below n r (AnEntry e children more) h (inl k) = omega (arith, h.0, k)
has_below n r (AnEntry e children more) h (inr (inl k)) = omega (arith, has_below (n + 1) r children h.1 k)
has_below n r (AnEntry e children more) h (inr (inr k)) = omega (arith, has_below (n + 1 + entries_in children) r more h.2 k)
