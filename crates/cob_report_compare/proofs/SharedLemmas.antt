-- The elements that two records of one layout both have stand in either, and records with the same bytes are equal by value.
use Rattle.std.proofs.Common.{◌≡◌, ℕ, ◌||◌, not, Bool, true, false, List, [], ◌∷◌, ◌++◌, length, Some, refl, sym, ap, subst, ◌∙◌, append-nil, arith, inl, Ok, Err, Result}
use Rattle.std.specs.Prelude.{option_map, if◌then◌else◌}
use Rattle.std.specs.List.{AllByRecursion}
use Rattle.cob_copybook_tree.specs.Forests.{Forest, NoEntries, AnEntry}
use Rattle.cob_copybook_tree.specs.Nodes.{Resolved}
use Rattle.cob_copybook.specs.Books.{IsRecordDescription}
use Rattle.cob_layout_places.specs.declared.counts.CountFault.{CountFault}
use Rattle.cob_layout_places.specs.declared.spots.Spot.{Spot}
use Rattle.cob_layout_places.specs.Counts.{tables_of}
use Rattle.cob_layout_places.specs.Lengths.{times}
use Rattle.cob_layout_places.specs.Places.{place_of}
use Rattle.cob_layout_places.specs.Spots.{spots_of}
use Rattle.cob_layout.specs.declared.fields.Place.{Place}
use Rattle.cob_layout.specs.Counting.{CountsOf}
use Rattle.cob_layout.specs.Fields.{field_of}
use Rattle.cob_layout.specs.Laws.{EndInLength, OneOfAll}
use Rattle.cob_layout.specs.Placed.{placed}
use Rattle.cob_layout.specs.Sound.{RecordsAreSound}
use Rattle.cob_layout.specs.Ways.{own_table, spot_at}
use Rattle.cob_report_show.specs.Elements.{AllStand, AreSubscriptsUpTo, ElementStandsAt, NamedItem, Printed, StandsWithin, named_in, own_of, table_times}
use Rattle.cob_report_show.specs.Records.{HoldsRecord}
use Rattle.cob_report_show.proofs.ElementLemmas.{all_append, all_become, items_stand}
use Rattle.cob_report_compare.specs.Chosen.{AreCompared, compared_among, compared_own, counts_of_tables, is_exempt, is_one_of}
use Rattle.cob_report_compare.specs.Differences.{shared_times}
use Rattle.cob_report_compare.specs.Equal.{EqualByValue, IsCompleteRecord, IsSameItem}
use Rattle.cob_report_compare.specs.Shared.{AllShared, ItemsShared}

-- ---- what holds of all named items holds of those that are compared

all_front : {X : Type 0} (P : X → Type 0) (xs ys : List X) → AllByRecursion P (xs ++ ys) → AllByRecursion P xs
all_front P [] ys all = tt
all_front P (x ∷ xs) ys all = (all.0, all_front P xs ys all.1)

all_behind : {X : Type 0} (P : X → Type 0) (xs ys : List X) → AllByRecursion P (xs ++ ys) → AllByRecursion P ys
all_behind P [] ys all = all
all_behind P (x ∷ xs) ys all = all_behind P xs ys all.1

all_both : {X : Type 0} (P Q R : X → Type 0) (xs : List X) → ((x : X) → P x → Q x → R x) → AllByRecursion P xs → AllByRecursion Q xs → AllByRecursion R xs
all_both P Q R [] f one other = tt
all_both P Q R (x ∷ xs) f one other = (f x one.0 other.0, all_both P Q R xs f one.1 other.1)

all_where : (P : NamedItem → Type 0) (b : Bool) (xs : List NamedItem) → AllByRecursion P xs → AllByRecursion P (if b then xs else [])
all_where P true xs all = all
all_where P false xs all = tt

all_compared : (P : NamedItem → Type 0) (ignored counting : List ℕ) (exempt : Bool) (over : List ℕ) (f : Forest Resolved) → AllByRecursion P (named_in over f)
    → AllByRecursion P (compared_among ignored counting exempt over f)
all_compared P ignored counting exempt over NoEntries all = tt
all_compared P ignored counting exempt over (AnEntry e children more) all =
    let own = over ++ own_table e.occurs e.number in
    let here = exempt || is_exempt ignored e in
    let behind = all_behind P (own_of over e) (named_in own children ++ named_in over more) all in
    all_append P (compared_own counting here over e) (compared_among ignored counting here own children ++ compared_among ignored counting exempt over more)
    (all_where P (not here || is_one_of counting e.number) (own_of over e) (all_front P (own_of over e) (named_in own children ++ named_in over more) all))
    (all_append P (compared_among ignored counting here own children) (compared_among ignored counting exempt over more)
    (all_compared P ignored counting here own children (all_front P (named_in own children) (named_in over more) behind))
    (all_compared P ignored counting exempt over more (all_behind P (named_in own children) (named_in over more) behind)))

-- and so of these items
pub of_compared : (P : NamedItem → Type 0) (tree : Forest Resolved) (xs : List NamedItem) → AreCompared tree xs → AllByRecursion P (named_in [] tree) → AllByRecursion P xs
of_compared P tree xs (ignored, are) all =
    subst (AllByRecursion P) (sym are) (all_compared P ignored (counts_of_tables (tables_of tree)) false [] tree all)

-- ---- subscripts

left_legal : (l r : Printed) (ts inner : List ℕ) → AreSubscriptsUpTo (shared_times l r ts) inner → AreSubscriptsUpTo (table_times l ts) inner
left_legal l r [] inner legal = legal
left_legal l r (t ∷ ts) [] legal = absurd legal
left_legal l r (t ∷ ts) (s ∷ inner) (some, most, legal) = (some, omega (arith, most), left_legal l r ts inner legal)

right_legal : (l r : Printed) (ts inner : List ℕ) → AreSubscriptsUpTo (shared_times l r ts) inner → AreSubscriptsUpTo (table_times r ts) inner
right_legal l r [] inner legal = legal
right_legal l r (t ∷ ts) [] legal = absurd legal
right_legal l r (t ∷ ts) (s ∷ inner) (some, most, legal) = (some, omega (arith, most), right_legal l r ts inner legal)

-- ---- elements of both

abbrev StandsAll : Printed → NamedItem → Type 0
StandsAll r x = AllStand r x x.tables []

shared_item : (l r : Printed) (x : NamedItem) → StandsAll l x → StandsAll r x → AllShared l r x x.tables []
shared_item l r x left right = λ inner legal. (left inner (left_legal l r x.tables inner legal), right inner (right_legal l r x.tables inner legal))

items_of_record : RecordsAreSound → EndInLength → (r : Printed) (xs : List NamedItem) → IsRecordDescription r.tree → HoldsRecord r.tree r.places (length r.bytes) → AreCompared r.tree xs
    → AllByRecursion (StandsAll r) xs
items_of_record sounds law r xs described (laid, long) are = of_compared (StandsAll r) r.tree xs are (items_stand sounds law r described laid long)

pub items_shared : RecordsAreSound → EndInLength → (l r : Printed) (xs : List NamedItem) → IsRecordDescription l.tree → l.tree ≡ r.tree → AreCompared l.tree xs
    → HoldsRecord l.tree l.places (length l.bytes) → HoldsRecord r.tree r.places (length r.bytes) → ItemsShared l r xs
items_shared sounds law l r xs described one are left right =
    all_both (StandsAll l) (StandsAll r) (λ (x : NamedItem). AllShared l r x x.tables []) xs (shared_item l r) (items_of_record sounds law l xs described left are)
    (items_of_record sounds law r xs (subst IsRecordDescription one described) right (subst (λ (t : Forest Resolved). AreCompared t xs) one are))

-- where no table is left the element itself stands in both
pub alone_shared : (l r : Printed) (x : NamedItem) (tables subscripts : List ℕ) → length tables ≡ 0 → AllShared l r x tables subscripts
    → StandsWithin l x subscripts × StandsWithin r x subscripts
alone_shared l r x [] subscripts none all = subst (λ (ss : List ℕ). StandsWithin l x ss × StandsWithin r x ss) (append-nil subscripts) (all [] refl)
alone_shared l r x (t ∷ tables) subscripts none all = absurd (omega (arith, none))

-- ---- records with the same bytes

abbrev counts_in : List ℕ → Result (List ℕ) CountFault → List ℕ
counts_in d (Ok counts) = counts
counts_in d (Err fault) = d

one_counts : OneOfAll → (l r : Printed) → l.tree ≡ r.tree → l.bytes ≡ r.bytes → CountsOf l.tree l.bytes (Ok l.places.counts) → CountsOf r.tree r.bytes (Ok r.places.counts)
    → l.places.counts ≡ r.places.counts
one_counts law l r one same left right =
    ap (counts_in []) (law l.tree l.bytes (Ok l.places.counts) (Ok r.places.counts) left
    (subst (λ (t : Forest Resolved). CountsOf t l.bytes (Ok r.places.counts)) (sym one) (subst (λ (bs : List ℕ). CountsOf r.tree bs (Ok r.places.counts)) (sym same) right)))

one_spots : (l r : Printed) → l.tree ≡ r.tree → l.places.counts ≡ r.places.counts → l.places.spots ≡ spots_of (times l.places.counts) l.tree 0 0
    → r.places.spots ≡ spots_of (times r.places.counts) r.tree 0 0 → l.places.spots ≡ r.places.spots
one_spots l r one counts left right =
    left ∙ ap (λ (c : List ℕ). spots_of (times c) l.tree 0 0) counts ∙ ap (λ (t : Forest Resolved). spots_of (times r.places.counts) t 0 0) one ∙ sym right

-- an element of one stands at the same place in the other
moved_to : (l r : Printed) (x : NamedItem) (subscripts : List ℕ) (place : Place) → l.tree ≡ r.tree → l.places.counts ≡ r.places.counts → ElementStandsAt l x subscripts place
    → ElementStandsAt r x subscripts place
moved_to l r x subscripts place one counts at = record {
  found = subst (λ (t : Forest Resolved). option_map placed (place_of (times r.places.counts) x.number t 0 0 subscripts) ≡ Some (Ok place)) one
      (subst (λ (c : List ℕ). option_map placed (place_of (times c) x.number l.tree 0 0 subscripts) ≡ Some (Ok place)) counts at.found);
  sized = at.sized;
}

same_item : (l r : Printed) → l.tree ≡ r.tree → l.places.counts ≡ r.places.counts → l.bytes ≡ r.bytes → (x : NamedItem) → StandsAll l x → IsSameItem l r x
same_item l r one counts same x stands = λ subscripts legal.
    let stand = stands subscripts legal in
    record {
      left = stand.place;
      right = stand.place;
      left_at = stand.at;
      right_at = moved_to l r x subscripts stand.place one counts stand.at;
      same = inl (ap (field_of stand.place) same);
    }

pub same_bytes : RecordsAreSound → EndInLength → OneOfAll → (xs : List NamedItem) (l r : Printed) → IsRecordDescription l.tree → AreCompared l.tree xs → l.tree ≡ r.tree → IsCompleteRecord l → IsCompleteRecord r
    → l.bytes ≡ r.bytes → EqualByValue xs l r
same_bytes sounds law outcome xs l r described are one left right same =
    let counts = one_counts outcome l r one same left.counts right.counts in
    let spots = one_spots l r one counts left.holds.0.1 right.holds.0.1 in
    record {
      alike = λ number. ap (λ (ss : List Spot). (spot_at ss number).times) spots;
      same = all_become (StandsAll l) (IsSameItem l r) xs (same_item l r one counts same) (items_of_record sounds law l xs described left.holds are);
    }
