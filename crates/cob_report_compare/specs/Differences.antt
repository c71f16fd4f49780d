-- The elements in which two records of one layout differ.
use Rattle.std.specs.Prelude.{◌≡◌, ℕ, zero, suc, ◌+◌, ◌≤◌, min, ◌⊎◌, Bool, true, false, List, [], ◌∷◌, ◌++◌, length, map, take, Option, Some, option_map}
use Rattle.std.specs.Borrow.{Bor}
use Rattle.cob_limits.specs.Limits.{most_dimensions}
use Rattle.cob_copybook_tree.specs.Lengths.{item_size}
use Rattle.cob_report_show.specs.declared.named.ListedItem.{ListedItem}
use Rattle.cob_report_compare.specs.Bytes.{AreFirstBytes, most_told}
use Rattle.cob_layout.specs.declared.fields.Place.{Place}
use Rattle.cob_layout.specs.Fields.{field_of}
use Rattle.cob_layout.specs.Ways.{spot_at}
use Rattle.cob_records.specs.Device.{greatest_count}
use Rattle.cob_report_show.specs.Elements.{ElementStandsAt, NamedItem, Printed, named_item}
use Rattle.cob_report_compare.specs.declared.differences.Difference.{Difference}
use Rattle.cob_report_compare.specs.declared.differences.FirstDifferences.{FirstDifferences}
use Rattle.cob_report_compare.specs.declared.records.Comparison.{Comparison}
use Rattle.cob_report_compare.specs.declared.records.Comparison.TheVariants.{Same, Equal, Differ, Unlike}
use Rattle.cob_report_compare.specs.Equal.{EqualByValue, IsSameElement, SameValue}

-- an element that differs: its item, its subscripts, and where it stands in either record
pub record PlainDifference : Type 0 where
  pub item : Option NamedItem
  pub subscripts : List ℕ
  pub left : Place
  pub right : Place

-- the item that is listed, where there is one
abbrev pub listed_item : Option (Bor ListedItem) → Option NamedItem
listed_item item = option_map (λ (x : Bor ListedItem). named_item x.now) item

-- the same, as it is told
abbrev pub plain_difference : Difference → PlainDifference
plain_difference d = record { item = listed_item d.item; subscripts = d.subscripts.items; left = d.left; right = d.right }

-- how often these tables occur in both records: as often as in the one in which they occur less often
abbrev pub shared_times : Printed → Printed → List ℕ → List ℕ
shared_times l r tables = map (λ t. min (spot_at l.places.spots t).times (spot_at r.places.spots t).times) tables

-- this is the element of an item with these subscripts, which both records have, and it does not hold one value in both
pub record IsDifference (l r : Printed) (x : NamedItem) (subscripts : List ℕ) (d : PlainDifference) : Type 0 where
  pub item_is : d.item ≡ Some x
  pub subscripts_are : d.subscripts ≡ subscripts
  pub few : length d.subscripts ≤ most_dimensions
  pub left_at : ElementStandsAt l x subscripts d.left
  pub right_at : ElementStandsAt r x subscripts d.right
  pub left_within : d.left.offset + d.left.length ≤ length l.bytes
  pub right_within : d.right.offset + d.right.length ≤ length r.bytes
  pub left_sized : d.left.length ≡ item_size x.item
  pub right_sized : d.right.length ≡ item_size x.item
  pub differs : SameValue x.item (field_of d.left l.bytes) (field_of d.right r.bytes) → ⊥

-- what is told of an element: nothing where it holds one value in both records, and else the element
abbrev pub IsElementTold : Printed → Printed → NamedItem → List ℕ → List PlainDifference → Type 0
IsElementTold l r x subscripts told =
    (IsSameElement l r x subscripts × (told ≡ []))
    ⊎ ((d : PlainDifference) × IsDifference l r x subscripts d × (told ≡ d ∷ []))

-- what is told of so many elements one behind another, each so by its number from 1 on
abbrev pub AreToldInTurn : (ℕ → List PlainDifference → Type 0) → ℕ → List PlainDifference → Type 0
AreToldInTurn is zero told = told ≡ []
AreToldInTurn is (suc n) told =
    (front : List PlainDifference) × (last : List PlainDifference) × AreToldInTurn is n front × is (suc n) last × (told ≡ front ++ last)

-- what is told of the elements of an item under these subscripts of its outer tables, the last subscript the fastest: of each element of the tables that
-- are left, which occur so often
abbrev pub AreElementsTold : Printed → Printed → NamedItem → List ℕ → List ℕ → List PlainDifference → Type 0
AreElementsTold l r x [] subscripts told = IsElementTold l r x subscripts told
AreElementsTold l r x (n ∷ ns) subscripts told = AreToldInTurn (λ s part. AreElementsTold l r x ns (subscripts ++ s ∷ []) part) n told

-- what is told of items, each with all its elements that both records have, one item behind another
abbrev pub AreItemsTold : Printed → Printed → List NamedItem → List PlainDifference → Type 0
AreItemsTold l r [] told = told ≡ []
AreItemsTold l r (x ∷ xs) told =
    (front : List PlainDifference) × (rest : List PlainDifference) × AreElementsTold l r x (shared_times l r x.tables) [] front
    × AreItemsTold l r xs rest × (told ≡ front ++ rest)

-- of all these differences the first are told, and their number up to the greatest count
pub record AreFirstOf (all : List PlainDifference) (told : FirstDifferences) : Type 0 where
  pub first : map plain_difference told.first.items ≡ take most_told all
  pub count : told.count ≡ min (length all) greatest_count

-- differences of which this is true came behind those so far
abbrev pub AddsDifference : (List PlainDifference → Type 0) → FirstDifferences → FirstDifferences → Type 0
AddsDifference is before now =
    (added : List PlainDifference) × is added × ((all : List PlainDifference) → AreFirstOf all before → AreFirstOf (all ++ added) now)

-- The first of the differences of two records of one layout in these items: of each element that both records have and that does not hold one value in both,
-- in the order of the items, the last subscript the fastest.
abbrev pub AreFirstDifferences : List NamedItem → Printed → Printed → FirstDifferences → Type 0
AreFirstDifferences xs l r told = (all : List PlainDifference) × AreItemsTold l r xs all × AreFirstOf all told

-- How two records compare: they have the same bytes, and so are equal by value; or they have not, and are; or they are not equal by value, and these are
-- the first of their differences.
abbrev pub IsComparison : List NamedItem → Printed → Printed → Comparison → Type 0
IsComparison xs l r Same = (l.bytes ≡ r.bytes) × EqualByValue xs l r
IsComparison xs l r Equal = (l.bytes ≡ r.bytes → ⊥) × EqualByValue xs l r
IsComparison xs l r (Differ told) = (EqualByValue xs l r → ⊥) × AreFirstDifferences xs l r told
IsComparison xs l r (Unlike told) = ⊥

-- How two records compare by their bytes: they have the same; or they have not, and these are the first of those that differ.
abbrev pub IsBytesComparison : List ℕ → List ℕ → Comparison → Type 0
IsBytesComparison l r Same = l ≡ r
IsBytesComparison l r Equal = ⊥
IsBytesComparison l r (Differ told) = ⊥
IsBytesComparison l r (Unlike told) = (l ≡ r → ⊥) × AreFirstBytes l r told

-- how two records compare by value in these items, or by their bytes
abbrev pub IsMeasured : (by_bytes : Bool) → List NamedItem → Printed → Printed → Comparison → Type 0
IsMeasured false xs l r c = IsComparison xs l r c
IsMeasured true xs l r c = IsBytesComparison l.bytes r.bytes c
