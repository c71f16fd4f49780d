-- When two records of one layout are equal by value.
use Rattle.std.specs.Prelude.{◌≡◌, ℕ, Bool, ◌⊎◌, List, length, Ok}
use Rattle.std.specs.List.{AllByRecursion}
use Rattle.cob_copybook_tree.specs.declared.node.Item.{Item}
use Rattle.cob_copybook_tree.specs.Items.{IsNumberItem, Represents}
use Rattle.cob_layout.specs.Counting.{CountsOf}
use Rattle.cob_layout.specs.declared.fields.Place.{Place}
use Rattle.cob_layout.specs.Fields.{field_of}
use Rattle.cob_layout.specs.Ways.{spot_at}
use Rattle.cob_report_show.specs.Elements.{AreSubscriptsUpTo, ElementStandsAt, NamedItem, Printed, table_times}
use Rattle.cob_report_show.specs.Records.{HoldsRecord}
use Rattle.cob_report_compare.specs.declared.elements.ComparedRecord.{ComparedRecord}

-- a record that is compared, with its entries
abbrev pub printed_of : ComparedRecord → Printed
printed_of r = record { tree = r.layout.now; places = r.places.now; bytes = r.bytes.now }

-- a record whose bytes give its counts, whose entries stand under these, and which is long enough for them
pub record IsCompleteRecord (r : Printed) : Type 0 where
  pub counts : CountsOf r.tree r.bytes (Ok r.places.counts)
  pub holds : HoldsRecord r.tree r.places (length r.bytes)

-- the bytes on both sides represent the number of the same digits, both negative or neither; minus zero is zero
abbrev pub AreOneNumber : Item → List ℕ → List ℕ → Type 0
AreOneNumber i a b = (negative : Bool) × (digits : List ℕ) × Represents i a negative digits × Represents i b negative digits

-- What an item holds on both sides is one value: the same bytes; or of a number bytes that represent one number. So bytes that represent none are one
-- value with the same bytes alone.
abbrev pub SameValue : Item → List ℕ → List ℕ → Type 0
SameValue i a b = (a ≡ b) ⊎ (IsNumberItem i × AreOneNumber i a b)

-- the element of an item with these subscripts holds one value in both records
pub record IsSameElement (l r : Printed) (x : NamedItem) (subscripts : List ℕ) : Type 0 where
  pub left : Place
  pub right : Place
  pub left_at : ElementStandsAt l x subscripts left
  pub right_at : ElementStandsAt r x subscripts right
  pub same : SameValue x.item (field_of left l.bytes) (field_of right r.bytes)

-- so do all elements of an item that the record on the left has
abbrev pub IsSameItem : Printed → Printed → NamedItem → Type 0
IsSameItem l r x = (subscripts : List ℕ) → AreSubscriptsUpTo (table_times l x.tables) subscripts → IsSameElement l r x subscripts

-- each entry occurs as often in one record as in the other
abbrev pub OccurAlike : Printed → Printed → Type 0
OccurAlike l r = (number : ℕ) → (spot_at l.places.spots number).times ≡ (spot_at r.places.spots number).times

-- Two records of one layout are equal by value in these items: each entry occurs as often in both, and each element of each item holds one value in both.
pub record EqualByValue (xs : List NamedItem) (l r : Printed) : Type 0 where
  pub alike : OccurAlike l r
  pub same : AllByRecursion (IsSameItem l r) xs
