-- What entries hold at their places, before the first move.
use Rattle.std.proofs.Common.{◌≡◌, ℕ, ◌+◌, ◌-◌, ◌*◌, ◌<◌, ◌≤◌, ◌==◌, ◌&&◌, Bool, true, false, List, [], ◌∷◌, ◌++◌, length, take, drop, Option, None, Some, is_some, inl, inr, refl, sym, ap, ◌∙◌, subst, arith}
use Rattle.std.proofs.lemmas.Bool.Decides.{nat_tests}
use Rattle.std.proofs.lemmas.List.{length-append, length-take, length-drop, take_all, take-take, drop_at, drop-drop, drop-take}
use Rattle.cob_copybook_entry.specs.Described.{PlainValue}
use Rattle.cob_copybook_tree.specs.declared.node.Kind.{Kind}
use Rattle.cob_copybook_tree.specs.declared.node.Kind.TheVariants.{Group}
use Rattle.cob_copybook_tree.specs.Forests.{Forest, NoEntries, AnEntry, entries_in}
use Rattle.cob_copybook_tree.specs.Nodes.{Resolved}
use Rattle.cob_copybook_tree.specs.Lengths.{greatest_number, own_length, sum_of, element_length, whole_length}
use Rattle.cob_layout_places.specs.declared.places.Found.{Found}
use Rattle.cob_layout_places.specs.Lengths.{MayOccur}
use Rattle.cob_layout_places.specs.Places.{is_table, skipped, later, is_there, begins, also, or_else, choose, place_of}
use Rattle.cob_layout_places.specs.Cover.{AreNumbered}
use Rattle.cob_layout.proofs.CoverLaw.{absent, differs, not_or}
use Rattle.cob_layout.specs.Sound.{IsSound}
use Rattle.cob_move_initial.specs.Initial.{HoldsElement, IsInitial}
use Rattle.cob_move_initial.specs.Begun.{AreElements, AreBegun}
use Rattle.cob_move_initial.specs.AtPlaces.{HaveEntry, HoldAtPlaces}
use Rattle.cob_move_initial.proofs.BegunLemmas.{element_at, first_length, element_by, begun_initial}
use Rattle.cob_move_initial.proofs.InitialLemmas.{own_first}

-- a part of a part
cut : (bytes : List ℕ) (a n b m : ℕ) → b + m ≤ n → take m (drop b (take n (drop a bytes))) ≡ take m (drop (a + b) bytes)
cut bytes a n b m le =
    let whole_is : n ≡ b + (n - b) = omega arith in
    let inner : drop b (take n (drop a bytes)) ≡ take (n - b) (drop b (drop a bytes)) = ap (λ (k : ℕ). drop b (take k (drop a bytes))) whole_is ∙ drop-take b (n - b) (drop a bytes) in
    ap (take m) inner ∙ take-take m (n - b) (drop b (drop a bytes)) (omega arith) ∙ ap (take m) (drop-drop b a bytes)

-- what was found stands in these bytes, which begin there, and its bytes are so
pub record IsPlaced (o : Option Found) (at : ℕ) (bytes : List ℕ) (IsHeld : List ℕ → Type 0) : Type 0 where
  pub place : Found
  pub found : o ≡ Some place
  pub from : at ≤ place.offset
  pub to : place.offset + place.length ≤ at + length bytes
  pub held : IsHeld (take place.length (drop (place.offset - at) bytes))

-- the same of bytes of which these are a part
within : (o : Option Found) (at d n : ℕ) (bytes : List ℕ) (IsHeld : List ℕ → Type 0) → d + n ≤ length bytes → IsPlaced o (at + d) (take n (drop d bytes)) IsHeld → IsPlaced o at bytes IsHeld
within o at d n bytes IsHeld le is =
    let long : length (take n (drop d bytes)) ≡ n = simp (length-take, length-drop) (omega arith) in
    let offset : d + (is.place.offset - (at + d)) ≡ is.place.offset - at = omega (arith, is.from) in
    let same = cut bytes d n (is.place.offset - (at + d)) is.place.length (omega (arith, is.from, is.to, long)) ∙ ap (λ (k : ℕ). take is.place.length (drop k bytes)) offset in
    record {
      place = is.place;
      found = is.found;
      from = omega (arith, is.from);
      to = omega (arith, is.to, long);
      held = subst IsHeld same is.held;
    }

-- an element is found that has all of its bytes
whole_element : (o : Option Found) (start : ℕ) (there : Bool) (size : ℕ) (part : List ℕ) (IsHeld : List ℕ → Type 0) → o ≡ Some record { offset = start; length = size; within = there } → length part ≡ size → IsHeld part
    → IsPlaced o start part IsHeld
whole_element o start there size part IsHeld found long held =
    let none : start - start ≡ 0 = omega arith in
    let all : take size (drop (start - start) part) ≡ part = ap (λ (k : ℕ). take size (drop k part)) none ∙ take_all size part (omega arith) in
    record {
      place = record { offset = start; length = size; within = there };
      found = found;
      from = omega arith;
      to = omega arith;
      held = subst IsHeld (sym all) held;
    }

-- what is found beneath an entry
beneath : (b : Bool) (own : Found) (there : Bool) (o behind : Option Found) (at : ℕ) (bytes : List ℕ) (IsHeld : List ℕ → Type 0) → b ≡ false → IsPlaced o at bytes IsHeld
    → IsPlaced (or_else (choose b own (also there o)) behind) at bytes IsHeld
beneath b own there o behind at bytes IsHeld other is = record {
  place = record { offset = is.place.offset; length = is.place.length; within = there && is.place.within };
  found = rw (other, is.found) refl;
  from = is.from;
  to = is.to;
  held = is.held;
}

skipped_small : (table : Bool) (n : ℕ) (subscripts : List ℕ) → 0 < n → skipped table n subscripts < n
skipped_small false n subscripts some = some
skipped_small true n [] some = some
skipped_small true n (s ∷ subscripts) some = omega arith

equals : (a b : ℕ) → a ≡ b → (a == b) ≡ true
equals a b is = grind (arith, nat_tests)

-- an entry's number is none of those before the entries
from_number : (d : Resolved) (under : Forest Resolved) (f : Forest Resolved) (n : ℕ) → AreNumbered n f → HaveEntry f d under → n ≤ d.number
from_number d under NoEntries n numbered have = absurd have
from_number d under (AnEntry e children more) n numbered (inl (own, inl is)) = omega (arith, numbered.0, ap (λ (u : Resolved). u.number) is.0)
from_number d under (AnEntry e children more) n numbered (inl (own, inr (kind, none, have))) = omega (arith, from_number d under children (n + 1) numbered.1 have)
from_number d under (AnEntry e children more) n numbered (inr have) = omega (arith, from_number d under more (n + 1 + entries_in children) numbered.2 have)

-- the entry itself is found
found_here : (e : Resolved) (children more : Forest Resolved) (number at area : ℕ) (subscripts : List ℕ) → e.redefines ≡ None → e.number ≡ number
    → place_of greatest_number number (AnEntry e children more) at area subscripts
    ≡ Some record { offset = at + skipped (is_table e.occurs) (greatest_number e) subscripts * element_length greatest_number e children; length = element_length greatest_number e children; within = is_there (is_table e.occurs) (greatest_number e) subscripts }
found_here e children more number at area subscripts own is = rw (equals e.number number is, own) refl

group_held : (kind : Kind) (value : Option PlainValue) (size : ℕ) (AreBeneath : List ℕ → Type 0) (part : List ℕ) → kind ≡ Group → value ≡ None → HoldsElement kind value size AreBeneath part → AreBeneath part
group_held kind value size AreBeneath part is none held =
    subst (λ (v : Option PlainValue). HoldsElement Group v size AreBeneath part) none (subst (λ (k : Kind). HoldsElement k value size AreBeneath part) is held)

-- what one element of an entry holds
abbrev HoldsOne : Resolved → Forest Resolved → List ℕ → Type 0
HoldsOne d under bytes = HoldsElement d.kind d.value (sum_of greatest_number under) (IsInitial under) bytes

one_held : (e : Resolved) (children : Forest Resolved) (d : Resolved) (under : Forest Resolved) (part : List ℕ) → e ≡ d → children ≡ under → HoldsElement e.kind e.value (sum_of greatest_number children) (AreBegun children) part → HoldsOne d under part
one_held e children d under part same kids held =
    subst (λ (g : Forest Resolved). HoldsOne d g part) kids
    (subst (λ (u : Resolved). HoldsOne u children part) same (element_by e.kind e.value (sum_of greatest_number children) (AreBegun children) (IsInitial children) (begun_initial children) part held))

module _ (d : Resolved) (under : Forest Resolved) where
  at_place : (f : Forest Resolved) (n at area : ℕ) (subscripts bytes : List ℕ) → MayOccur f → AreNumbered n f → AreBegun f bytes → HaveEntry f d under
      → IsPlaced (place_of greatest_number d.number f at area subscripts) at bytes (HoldsOne d under)
  at_place NoEntries n at area subscripts bytes possible numbered begun have = absurd have
  at_place (AnEntry e children more) n at area subscripts bytes possible numbered begun (inl (own, inl is)) =
      let size = element_length greatest_number e children in
      let k = skipped (is_table e.occurs) (greatest_number e) subscripts in
      let here = element_at e children more k bytes own (skipped_small (is_table e.occurs) (greatest_number e) subscripts possible.0) begun in
      let long : length (take size (drop (k * size) bytes)) ≡ size = simp (length-take, length-drop) (omega (arith, here.fits)) in
      let found = found_here e children more d.number at area subscripts own (ap (λ (u : Resolved). u.number) is.0) in
      within _ at (k * size) size bytes (HoldsOne d under) here.fits
      (whole_element _ (at + k * size) (is_there (is_table e.occurs) (greatest_number e) subscripts) size (take size (drop (k * size) bytes)) (HoldsOne d under) found long (one_held e children d under _ is.0 is.1 here.holds))
  at_place (AnEntry e children more) n at area subscripts bytes possible numbered begun (inl (own, inr (kind, none, have))) =
      let size = element_length greatest_number e children in
      let k = skipped (is_table e.occurs) (greatest_number e) subscripts in
      let here = element_at e children more k bytes own (skipped_small (is_table e.occurs) (greatest_number e) subscripts possible.0) begun in
      let inner = later (is_table e.occurs) subscripts in
      let deep = at_place children (n + 1) (at + k * size) (at + k * size) inner (take size (drop (k * size) bytes)) possible.1 numbered.1 (group_held e.kind e.value _ _ _ kind none here.holds) have in
      let other : (e.number == d.number) ≡ false = differs e.number d.number (omega (arith, numbered.0, from_number d under children (n + 1) numbered.1 have)) in
      let start : begins e.redefines at area ≡ at = ap (λ (o : Option (List ℕ)). begins o at area) own in
      let there : IsPlaced (place_of greatest_number d.number children (begins e.redefines at area + k * size) (begins e.redefines at area + k * size) inner) (at + k * size) (take size (drop (k * size) bytes)) (HoldsOne d under) = rw start deep in
      within _ at (k * size) size bytes (HoldsOne d under) here.fits (beneath _ _ _ _ _ _ _ _ other there)
  at_place (AnEntry e children more) n at area subscripts bytes possible numbered begun (inr have) =
      let far = from_number d under more (n + 1 + entries_in children) numbered.2 have in
      let taken = own_length e.redefines (whole_length greatest_number e children) in
      let long : length begun.0 ≡ taken = first_length e.redefines _ (element_length greatest_number e children) (greatest_number e) begun.0 begun.3 in
      let all : length bytes ≡ length begun.0 + length begun.1 = ap length begun.2 ∙ length-append begun.0 begun.1 in
      let behind : take (length begun.1) (drop taken bytes) ≡ begun.1 = ap (λ (xs : List ℕ). take (length begun.1) (drop taken xs)) begun.2 ∙ ap (take (length begun.1)) (drop_at begun.0 begun.1 taken long) ∙ take_all (length begun.1) begun.1 (omega arith) in
      let rest = at_place more (n + 1 + entries_in children) (at + taken) (begins e.redefines at area) subscripts begun.1 possible.2 numbered.2 begun.4 have in
      let skip : place_of greatest_number d.number (AnEntry e children more) at area subscripts ≡ place_of greatest_number d.number more (at + taken) (begins e.redefines at area) subscripts =
      not_or _ _ _ _ _ (differs e.number d.number (omega (arith, numbered.0, far))) (absent greatest_number d.number (n + 1) children _ _ _ numbered.1 (omega (arith, far))) in
      within _ at taken (length begun.1) bytes (HoldsOne d under) (omega (arith, all, long)) (rw (skip, behind) rest)

-- each entry holds at its places what it holds before the first move
hold_at_places : (f : Forest Resolved) (bytes : List ℕ) → MayOccur f → AreNumbered 0 f → AreBegun f bytes → HoldAtPlaces f bytes
hold_at_places f bytes possible numbered begun d under subscripts have =
    let is = at_place d under f 0 0 0 subscripts bytes possible numbered begun have in
    let from_start : is.place.offset - 0 ≡ is.place.offset = omega arith in
    let held : HoldsOne d under (take is.place.length (drop is.place.offset bytes)) = rw from_start at is.held in
    rw is.found held

-- the storage of a record
pub record IsBegunRecord (f : Forest Resolved) (bytes : List ℕ) : Type 0 where
  pub initial : IsInitial f bytes
  pub places : HoldAtPlaces f bytes

-- all elements of the record itself, of which there is one, are its storage
pub record_begun : (e : Resolved) (children : Forest Resolved) (f : Forest Resolved) (front rest : List ℕ) → IsSound (AnEntry e children NoEntries) → AnEntry e children NoEntries ≡ f → AreElements e children front → rest ≡ []
    → IsBegunRecord f (front ++ rest)
record_begun e children f front rest sound is elements end =
    let t = AnEntry e children NoEntries in
    let begun : AreBegun t (front ++ rest) = rw end (own_first e children NoEntries front [] (ap is_some sound.first) elements refl) in
    subst (λ g. IsBegunRecord g (front ++ rest)) is record {
      initial = begun_initial t (front ++ rest) begun;
      places = hold_at_places t (front ++ rest) sound.fit.possible sound.numbered begun;
    }
