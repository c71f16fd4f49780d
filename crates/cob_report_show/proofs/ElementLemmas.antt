-- The elements of the named elementary items of a record stand where places say.
use Rattle.std.proofs.Common.{◌≡◌, ℕ, ◌+◌, ◌-◌, ◌*◌, ◌≤◌, ◌&&◌, nat_le, Bool, true, List, [], ◌∷◌, ◌++◌, length, map, get_or, Option, Some, None, refl, sym, ap, subst, ◌∙◌, arith, inl, inr, append-nil, append_assoc, Ok}
use Rattle.std.specs.Prelude.{option_map}
use Rattle.std.specs.List.{AllByRecursion}
use Rattle.std.proofs.lemmas.Bool.Decides.{nat_tests}
use Rattle.cob_copybook_tree.specs.declared.node.Kind.{Kind}
use Rattle.cob_copybook_tree.specs.declared.node.Kind.TheVariants.{Group, Item as ItemKind}
use Rattle.cob_copybook_tree.specs.declared.node.ResolvedOccurs.{ResolvedOccurs}
use Rattle.cob_copybook_tree.specs.declared.node.ResolvedOccurs.TheVariants.{Once, Fixed, Varying}
use Rattle.cob_copybook_tree.specs.Forests.{Forest, NoEntries, AnEntry}
use Rattle.cob_copybook_tree.specs.Lengths.{greatest_number, item_size, length_by_kind, whole_length, own_length, sum_of}
use Rattle.cob_copybook_tree.specs.Nodes.{Resolved}
use Rattle.cob_copybook.specs.Books.{IsRecordDescription}
use Rattle.cob_layout_places.specs.declared.places.Found.{Found}
use Rattle.cob_layout_places.specs.declared.spots.Spot.{Spot}
use Rattle.cob_layout_places.specs.Lengths.{times, AreWithin}
use Rattle.cob_layout_places.specs.Places.{place_of, begins, is_table, later}
use Rattle.cob_layout_places.specs.References.{IsSubscripted, Refers}
use Rattle.cob_layout_places.proofs.ForestLemmas.{within_always}
use Rattle.cob_layout.specs.Laws.{EndInLength}
use Rattle.cob_layout.specs.Placed.{placed}
use Rattle.cob_layout.specs.Sound.{IsSound, RecordsAreSound}
use Rattle.cob_layout.specs.Ways.{Held, held_in, own_table, spot_at, moved, first_element}
use Rattle.cob_layout.proofs.SpotLaw.{AreSpots, AreHeld, are_spots, nowhere, stands_moved}
use Rattle.cob_layout.proofs.WayLaw.{held_alone}
use Rattle.cob_report_show.specs.Elements.{NamedItem, Printed, AllStand, AreSubscriptsUpTo, IsLaidOut, ItemsStand, StandsWithin, named_in, own_item, own_of}

-- ---- lists of which each has a fact

pub all_append : {X : Type 0} (P : X → Type 0) (xs ys : List X) → AllByRecursion P xs → AllByRecursion P ys → AllByRecursion P (xs ++ ys)
all_append P [] ys firsts others = others
all_append P (x ∷ xs) ys firsts others = (firsts.0, all_append P xs ys firsts.1 others)

pub all_become : {X : Type 0} (P Q : X → Type 0) (xs : List X) → ((x : X) → P x → Q x) → AllByRecursion P xs → AllByRecursion Q xs
all_become P Q [] f each = tt
all_become P Q (x ∷ xs) f each = (f x each.0, all_become P Q xs f each.1)

-- ---- subscripts

-- those of an entry of its own are legal ones
own_legal : (spots : List Spot) (o : ResolvedOccurs) (n number : ℕ) (inner : List ℕ) → (spot_at spots number).times ≤ n
    → AreSubscriptsUpTo (map (λ t. (spot_at spots t).times) (own_table o number)) inner
    → IsSubscripted (is_table o) n inner × (later (is_table o) inner ≡ [])
own_legal spots Once n number inner most legal = (tt, legal)
own_legal spots (Fixed m) n number [] most legal = absurd legal
own_legal spots (Fixed m) n number (s ∷ inner) most legal = ((legal.0, omega (arith, legal.1, most)), legal.2)
own_legal spots (Varying least m count) n number [] most legal = absurd legal
own_legal spots (Varying least m count) n number (s ∷ inner) most legal = ((legal.0, omega (arith, legal.1, most)), legal.2)

-- and those of one beneath it begin with them
kid_legal : (spots : List Spot) (o : ResolvedOccurs) (n number : ℕ) (ts inner : List ℕ) → (spot_at spots number).times ≤ n
    → AreSubscriptsUpTo (map (λ t. (spot_at spots t).times) (own_table o number ++ ts)) inner
    → IsSubscripted (is_table o) n inner × AreSubscriptsUpTo (map (λ t. (spot_at spots t).times) ts) (later (is_table o) inner)
kid_legal spots Once n number ts inner most legal = (tt, legal)
kid_legal spots (Fixed m) n number ts [] most legal = absurd legal
kid_legal spots (Fixed m) n number ts (s ∷ inner) most legal = ((legal.0, omega (arith, legal.1, most)), legal.2)
kid_legal spots (Varying least m count) n number ts [] most legal = absurd legal
kid_legal spots (Varying least m count) n number ts (s ∷ inner) most legal = ((legal.0, omega (arith, legal.1, most)), legal.2)

-- ---- items among entries

-- an item among entries that these tables hold: its further tables, how it is referred to, and its length
record Among (spots : List Spot) (all : List Held) (over : List ℕ) (f : Forest Resolved) (x : NamedItem) : Type 0 where
  tables : List ℕ
  is : x.tables ≡ over ++ tables
  held : (d : Held) → (get_or all x.number d).tables ≡ x.tables
  refers : (inner : List ℕ) → AreSubscriptsUpTo (map (λ t. (spot_at spots t).times) tables) inner → Refers x.number inner f
  sized : (spot_at spots x.number).length ≡ item_size x.item

own_among : (c : Resolved → ℕ) (spots : List Spot) (all : List Held) (over : List ℕ) (e : Resolved) (children more : Forest Resolved) (at area : ℕ)
    → AreSpots spots c (AnEntry e children more) at area → AreHeld all over (AnEntry e children more) → c e ≤ greatest_number e
    → (k : Kind) (o : Option (List ℕ)) → e.kind ≡ k
    → AllByRecursion (Among spots all over (AnEntry e children more)) (own_item k o e.number (over ++ own_table e.occurs e.number))
own_among c spots all over e children more at area sp hs most (ItemKind i) (Some name) kind =
    let times_is : (spot_at spots e.number).times ≡ c e = ap (λ (s : Spot). s.times) (sp.0 nowhere) in (
      record {
        tables = own_table e.occurs e.number;
        is = refl;
        held = λ d. ap (λ (h : Held). h.tables) (hs.0 d);
        refers = λ inner legal.
            let own = own_legal spots e.occurs (greatest_number e) e.number inner (omega (arith, times_is, most)) legal in
            inl (own.0, inl (refl, own.1));
        sized = ap (λ (s : Spot). s.length) (sp.0 nowhere) ∙ ap (λ (q : Kind). length_by_kind q (sum_of c children)) kind;
      },
      tt,
    )
own_among c spots all over e children more at area sp hs most (ItemKind i) None kind = tt
own_among c spots all over e children more at area sp hs most Group o kind = tt

kid_among : (c : Resolved → ℕ) (spots : List Spot) (all : List Held) (over : List ℕ) (e : Resolved) (children more : Forest Resolved) (at area : ℕ)
    → AreSpots spots c (AnEntry e children more) at area → c e ≤ greatest_number e
    → (x : NamedItem) → Among spots all (over ++ own_table e.occurs e.number) children x → Among spots all over (AnEntry e children more) x
kid_among c spots all over e children more at area sp most x kid =
    let times_is : (spot_at spots e.number).times ≡ c e = ap (λ (s : Spot). s.times) (sp.0 nowhere) in
    record {
      tables = own_table e.occurs e.number ++ kid.tables;
      is = kid.is ∙ append_assoc over (own_table e.occurs e.number) kid.tables;
      held = kid.held;
      refers = λ inner legal.
          let own = kid_legal spots e.occurs (greatest_number e) e.number kid.tables inner (omega (arith, times_is, most)) legal in
          inl (own.0, inr (kid.refers (later (is_table e.occurs) inner) own.1));
      sized = kid.sized;
    }

more_among : (spots : List Spot) (all : List Held) (over : List ℕ) (e : Resolved) (children more : Forest Resolved)
    → (x : NamedItem) → Among spots all over more x → Among spots all over (AnEntry e children more) x
more_among spots all over e children more x one = record {
  tables = one.tables;
  is = one.is;
  held = one.held;
  refers = λ inner legal. inr (one.refers inner legal);
  sized = one.sized;
}

among : (c : Resolved → ℕ) (spots : List Spot) (all : List Held) (f : Forest Resolved) (over : List ℕ) (at area : ℕ)
    → AreSpots spots c f at area → AreHeld all over f → AreWithin c f → AllByRecursion (Among spots all over f) (named_in over f)
among c spots all NoEntries over at area sp hs within = tt
among c spots all (AnEntry e children more) over at area sp hs within =
    let start = begins e.redefines at area in
    let own = over ++ own_table e.occurs e.number in
    let next_at = at + own_length e.redefines (whole_length c e children) in
    let here : Forest Resolved = AnEntry e children more in
    let kids = all_become (Among spots all own children) (Among spots all over here) (named_in own children)
    (kid_among c spots all over e children more at area sp within.0) (among c spots all children own start start sp.1 hs.1 within.1) in
    let beside = all_become (Among spots all over more) (Among spots all over here) (named_in over more)
    (more_among spots all over e children more) (among c spots all more over next_at start sp.2 hs.2 within.2) in
    all_append (Among spots all over here) (own_of over e) (named_in own children ++ named_in over more)
    (own_among c spots all over e children more at area sp hs within.0 e.kind e.name refl)
    (all_append (Among spots all over here) (named_in own children) (named_in over more) kids beside)

-- ---- elements

-- an element that subscripts name which are there is there
moved_within : (spots : List Spot) (ts inner : List ℕ) (f : Found) → f.within ≡ true → AreSubscriptsUpTo (map (λ t. (spot_at spots t).times) ts) inner
    → (moved spots ts inner f).within ≡ true
moved_within spots [] inner f there legal = there
moved_within spots (t ∷ ts) [] f there legal = absurd legal
moved_within spots (t ∷ ts) (s ∷ inner) f there legal =
    let table = spot_at spots t in
    moved_within spots ts inner (record { offset = f.offset + (s - 1) * table.length; length = f.length; within = f.within && nat_le s table.times })
    (both f.within (nat_le s table.times) there (yes_ s table.times legal.1)) legal.2
  where
    both : (a b : Bool) → a ≡ true → b ≡ true → (a && b) ≡ true
    both a b e g = rw (e, g) refl

    yes_ : (s n : ℕ) → s ≤ n → nat_le s n ≡ true
    yes_ s n h = grind (arith, nat_tests)

moved_length : (spots : List Spot) (ts inner : List ℕ) (f : Found) → (moved spots ts inner f).length ≡ f.length
moved_length spots [] inner f = refl
moved_length spots (t ∷ ts) [] f = refl
moved_length spots (t ∷ ts) (s ∷ inner) f =
    let table = spot_at spots t in
    moved_length spots ts inner (record { offset = f.offset + (s - 1) * table.length; length = f.length; within = f.within && nat_le s table.times })

placed_there : (f : Found) → f.within ≡ true → placed f ≡ Ok (record { offset = f.offset; length = f.length })
placed_there f there = rw there refl

stand_of : EndInLength → (r : Printed) → IsRecordDescription r.tree → IsSound r.tree → IsLaidOut r → sum_of (times r.places.counts) r.tree ≤ length r.bytes
    → (x : NamedItem) → Among r.places.spots (held_in [] r.tree) [] r.tree x → AllStand r x x.tables []
stand_of law r described sound laid long x one = λ inner legal.
    let counts = r.places.counts in
    let spots = r.places.spots in
    let refers = one.refers inner (subst (λ (ts : List ℕ). AreSubscriptsUpTo (map (λ t. (spot_at spots t).times) ts) inner) one.is legal) in
    let stands : place_of (times counts) x.number r.tree 0 0 inner ≡ Some (moved spots x.tables inner (first_element spots x.number)) =
    stands_moved (times counts) r.tree spots (held_in [] r.tree) x.number inner (record { tables = []; end = 0 }) sound.numbered laid.1 refl refers
    ∙ ap (λ (ts : List ℕ). Some (moved spots ts inner (first_element spots x.number))) (one.held (record { tables = []; end = 0 })) in
    let found : Found = moved spots x.tables inner (first_element spots x.number) in
    let there : found.within ≡ true = moved_within spots x.tables inner (first_element spots x.number) refl legal in
    let ends = law r.tree counts x.number inner found described refers stands there in
    record {
      refers = refers;
      place = record { offset = found.offset; length = found.length };
      at = record {
        found = ap (λ (o : Option Found). option_map placed o) stands ∙ ap (λ p. Some p) (placed_there found there);
        sized = moved_length spots x.tables inner (first_element spots x.number) ∙ one.sized;
      };
      within = omega (arith, ends, long);
    }

-- the elements of all named items of a record stand within its bytes
pub items_stand : RecordsAreSound → EndInLength → (r : Printed) → IsRecordDescription r.tree → IsLaidOut r → sum_of (times r.places.counts) r.tree ≤ length r.bytes
    → ItemsStand r (named_in [] r.tree)
items_stand sounds law r described laid long =
    let sound = sounds r.tree described in
    let spots = r.places.spots in
    all_become (Among spots (held_in [] r.tree) [] r.tree) (λ (x : NamedItem). AllStand r x x.tables []) (named_in [] r.tree)
    (stand_of law r described sound laid long)
    (among (times r.places.counts) spots (held_in [] r.tree) r.tree [] 0 0
    (are_spots (times r.places.counts) r.tree 0 0 0 [] [] spots refl sound.numbered (laid.1 ∙ sym (append-nil _)))
    (held_alone r.tree (held_in [] r.tree) sound.numbered refl)
    (within_always r.places.counts r.tree))

none_of : (ts : List ℕ) → length ts ≡ 0 → ts ≡ []
none_of [] none = refl
none_of (t ∷ ts) none = absurd (omega (arith, none))

-- where no table is left the element itself stands
pub stands_alone : (r : Printed) (x : NamedItem) (tables subscripts : List ℕ) → length tables ≡ 0 → AllStand r x tables subscripts → StandsWithin r x subscripts
stands_alone r x tables subscripts none all =
    subst (λ (ss : List ℕ). StandsWithin r x ss) (append-nil subscripts) (subst (λ (ts : List ℕ). AllStand r x ts subscripts) (none_of tables none) all [] refl)
