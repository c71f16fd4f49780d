-- Counts that stand before the first table that varies.
use Rattle.std.proofs.Common.{◌≡◌, ℕ, ◌+◌, ◌<◌, ◌≤◌, List, [], ◌∷◌, length, get_or, Option, Some, None, zero, suc, Result, refl, sym, ap, subst, ◌∙◌, arith, inl, inr, append-nil}
use Rattle.std.specs.Prelude.{slice_set, slice_index}
use Rattle.std.proofs.lemmas.List.{get_or-set_other}
use Rattle.cob_copybook_tree.specs.declared.node.Item.{Item}
use Rattle.cob_copybook_tree.specs.declared.node.Kind.{Kind}
use Rattle.cob_copybook_tree.specs.declared.node.Kind.TheVariants.{Group, Item as ItemKind}
use Rattle.cob_copybook_tree.specs.Items.{IsNumberItem}
use Rattle.cob_copybook_tree.specs.Lengths.{item_size}
use Rattle.cob_copybook_tree.specs.Forests.{Forest, entries_in}
use Rattle.cob_copybook_tree.specs.Nodes.{Resolved}
use Rattle.cob_layout.specs.Sound.{IsSound}
use Rattle.cob_layout_places.specs.declared.counts.CountFault.{CountFault}
use Rattle.cob_layout_places.specs.declared.places.Found.{Found}
use Rattle.cob_layout_places.specs.declared.spots.Spot.{Spot}
use Rattle.cob_layout_places.specs.declared.varying.Table.{Table}
use Rattle.cob_layout_places.specs.Cover.{AreNumbered}
use Rattle.cob_layout_places.specs.Agree.{OnePlace}
use Rattle.cob_layout_places.specs.Counts.{kind_in, tables_of, IsCountable, Taken}
use Rattle.cob_layout_places.specs.Lengths.{times}
use Rattle.cob_layout_places.specs.Places.{place_of}
use Rattle.cob_layout_places.specs.Spots.{spots_of}
use Rattle.cob_layout_places.proofs.CountLemmas.{found_size, found_there, pairs_in}
use Rattle.cob_layout.specs.Counting.{greatest_counts, CountsOf}
use Rattle.cob_layout.specs.Standing.{first_number}
use Rattle.cob_layout.specs.Ways.{first_element}
use Rattle.cob_layout.specs.Kinds.{kinds_of}
use Rattle.cob_layout.proofs.KeepLaw.{first_found}
use Rattle.cob_layout.proofs.KindLaw.{kind_at}
use Rattle.cob_layout.proofs.NeedLemmas.{known}
use Rattle.cob_layout.proofs.RecordLemmas.{slots_for}
use Rattle.cob_layout.proofs.ReferenceLemmas.{has_below}
use Rattle.cob_layout.proofs.SpotLaw.{are_spots}
use Rattle.cob_layout.proofs.ThoseLemmas.{IsIn, of_all, Rise, rise_all, rise_low}

pub in_get : (xs : List Table) (k : ℕ) (d : Table) → k < length xs → IsIn (get_or xs k d) xs
in_get [] k d lt = absurd (omega (arith, lt))
in_get (x ∷ xs) zero d lt = inl refl
in_get (x ∷ xs) (suc k) d lt = inr (in_get xs k d (omega (arith, lt)))

-- a table of the record, by its place among them
pub table_at : (t : Forest Resolved) (xs : List Table) (k : ℕ) (d : Table) → xs ≡ tables_of t → k < length xs → IsIn (get_or xs k d) (tables_of t)
table_at t xs k d all lt = subst (IsIn (get_or xs k d)) all (in_get xs k d lt)

-- and its number is that of an entry
pub number_below : (t : Forest Resolved) (x : Table) (n : ℕ) → IsSound t → IsIn x (tables_of t) → n ≡ entries_in t → x.number < n
number_below t x n s i all = of_all (λ (y : Table). y.number < n) (tables_of t) x (slots_for t (tables_of t) n s refl all) i

first_low : (n m : ℕ) (xs : List Table) (x : Table) → Rise n m xs → IsIn x xs → first_number xs ≤ x.number
first_low n m [] x rise i = absurd i
first_low n m (y ∷ ys) x rise i = rise_low y.number m (y ∷ ys) x (omega arith, rise.1) i

-- no table has a number before the first one
pub first_least : (t : Forest Resolved) (xs : List Table) (k : ℕ) (d : Table) → IsSound t → xs ≡ tables_of t → k < length xs → first_number xs ≤ (get_or xs k d).number
first_least t xs k d s all lt =
    first_low 0 (0 + entries_in t) xs (get_or xs k d) (subst (Rise 0 (0 + entries_in t)) (sym all) (rise_all t 0 (0 + entries_in t) s.numbered refl)) (in_get xs k d lt)

-- a count before the first table stands at its spot, where the counts before that table are still those of the spots
pub early_place : OnePlace → (t : Forest Resolved) (x : Table) (counts old : List ℕ) (spots : List Spot) (first : ℕ) → IsSound t → IsIn x (tables_of t)
    → spots ≡ spots_of (times old) t 0 0 → ((n : ℕ) → n < first → slice_index counts n ≡ slice_index old n)
    → x.count < first → place_of (times counts) x.count t 0 0 [] ≡ Some (first_element spots x.count)
early_place place t x counts old spots first s i are same early =
    let own = known t x s i in
    place counts old t x.count [] s.numbered own.has (λ y has needs. (let le = own.earlier y needs in same y (omega (arith, le, early))))
    ∙ first_found (times old) spots t 0 0 0 x.count s.numbered (are_spots (times old) t 0 0 0 [] [] spots refl s.numbered (are ∙ sym (append-nil (spots_of (times old) t 0 0)))) own.has

-- the item of a table's count: it is a number, as long as its place, which there is
pub record CountItem (t : Forest Resolved) (x : Table) (counts : List ℕ) : Type 0 where
  pub number : (i : Item) → kind_in x.count t ≡ Some (ItemKind i) → IsNumberItem i
  pub long : (i : Item) (f : Found) → kind_in x.count t ≡ Some (ItemKind i) → place_of (times counts) x.count t 0 0 [] ≡ Some f → f.length ≡ item_size i
  pub there : place_of (times counts) x.count t 0 0 [] ≡ None → ⊥
  pub item : kind_in x.count t ≡ Some Group → ⊥
  pub below : x.count < entries_in t

same_item : (a b : Item) (o : Option Kind) → o ≡ Some (ItemKind a) → o ≡ Some (ItemKind b) → a ≡ b
same_item a b o e f = let g : Some (ItemKind a) ≡ Some (ItemKind b) = sym e ∙ f in cc

no_group : (a : Item) (o : Option Kind) → o ≡ Some (ItemKind a) → o ≡ Some Group → ⊥
no_group a o e f = let g : Some (ItemKind a) ≡ Some Group = sym e ∙ f in cc

pub count_item : (t : Forest Resolved) (x : Table) (counts : List ℕ) → IsSound t → IsIn x (tables_of t) → CountItem t x counts
count_item t x counts s i =
    let countable = of_all (IsCountable t) (tables_of t) x s.countable i in
    let own = known t x s i in
    let kind = kind_in x.count t in
    let place = place_of (times counts) x.count t 0 0 [] in
    record {
      number = λ item is. subst IsNumberItem (same_item countable.item item kind countable.is is) countable.number;
      long = λ item f is stands. found_size kind place item f (pairs_in (times counts) x.count t 0 0 []) is stands;
      there = λ none. found_there kind place countable.item (pairs_in (times counts) x.count t 0 0 []) countable.is none;
      item = λ group. no_group countable.item kind countable.is group;
      below = omega (arith, has_below 0 x.count t s.numbered own.has);
    }

-- the item of an entry that is described so
pub described : (t u : Forest Resolved) (kinds : List Kind) (r : ℕ) (k l : Kind) → AreNumbered 0 t → t ≡ u → kinds ≡ kinds_of t → r < entries_in u → k ≡ get_or kinds r k → k ≡ l → kind_in r u ≡ Some l
described t u kinds r k l num same are below is so = kind_at t u kinds r k num same are below ∙ ap (λ (j : Kind). Some j) (sym is ∙ so)

-- a count that is put behind leaves those before
pub still_early : (counts old : List ℕ) (first at v : ℕ) → first ≤ at → ((n : ℕ) → n < first → slice_index counts n ≡ slice_index old n) → (n : ℕ) → n < first → slice_index (slice_set counts at v) n ≡ slice_index old n
still_early counts old first at v le same n lt = get_or-set_other counts at n v 0 (λ e. omega (arith, le, lt, e)) ∙ same n lt

-- what is taken of all tables, from the greatest counts on
pub of_all_taken : (t : Forest Resolved) (bytes : List ℕ) (xs : List Table) (c : List ℕ) (r : Result (List ℕ) CountFault) → xs ≡ tables_of t → c ≡ greatest_counts t → Taken t bytes xs c r → CountsOf t bytes r
of_all_taken t bytes xs c r all is taken =
    subst (λ (d : List ℕ). Taken t bytes (tables_of t) d r) is (subst (λ (ys : List Table). Taken t bytes ys c r) all taken)

-- counts that are those of before up to the first of the record's tables are the greatest ones there
pub early_in : (t : Forest Resolved) (xs : List Table) (counts old : List ℕ) → xs ≡ tables_of t → old ≡ greatest_counts t → ((n : ℕ) → n < first_number xs → slice_index counts n ≡ slice_index old n)
    → (n : ℕ) → n < first_number (tables_of t) → slice_index counts n ≡ slice_index (greatest_counts t) n
early_in t xs counts old all is early n lt =
    early n (subst (λ (ys : List Table). n < first_number ys) (sym all) lt) ∙ ap (λ (c : List ℕ). slice_index c n) is

pub early_again : (counts new old : List ℕ) (first : ℕ) → new ≡ counts → ((n : ℕ) → n < first → slice_index counts n ≡ slice_index old n) → (n : ℕ) → n < first → slice_index new n ≡ slice_index old n
early_again counts new old first is early n lt = ap (λ (c : List ℕ). slice_index c n) is ∙ early n lt
