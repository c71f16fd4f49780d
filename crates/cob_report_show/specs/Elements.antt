-- The named elementary items of a record, and which elements of them there are.
use Rattle.std.specs.Prelude.{◌≡◌, ℕ, ◌+◌, ◌<◌, ◌≤◌, List, [], ◌∷◌, ◌++◌, length, map, Option, Some, Ok, option_map}
use Rattle.std.specs.List.{AllByRecursion}
use Rattle.cob_copybook_tree.specs.declared.node.Item.{Item}
use Rattle.cob_copybook_tree.specs.declared.node.Kind.{Kind}
use Rattle.cob_copybook_tree.specs.declared.node.Kind.TheVariants.{Item as ItemKind}
use Rattle.cob_copybook_tree.specs.Forests.{Forest, NoEntries, AnEntry}
use Rattle.cob_copybook_tree.specs.Lengths.{item_size}
use Rattle.cob_copybook_tree.specs.Nodes.{Resolved}
use Rattle.cob_layout_places.specs.Lengths.{times}
use Rattle.cob_layout_places.specs.Places.{place_of}
use Rattle.cob_layout_places.specs.References.{Refers}
use Rattle.cob_layout.specs.declared.fields.Place.{Place}
use Rattle.cob_layout.specs.Placed.{placed}
use Rattle.cob_layout.specs.Standing.{Standing, ArePlaces}
use Rattle.cob_layout.specs.Ways.{own_table, spot_at}
use Rattle.cob_report_show.specs.declared.elements.Contents.{Contents}
use Rattle.cob_report_show.specs.declared.named.ListedItem.{ListedItem}

-- a named elementary item: its number, its name, what it is, and the numbers of the tables that hold it or that it is, the outermost first
pub record NamedItem : Type 0 where
  pub number : ℕ
  pub name : List ℕ
  pub item : Item
  pub tables : List ℕ

-- an entry is one where it has a name and is an item
abbrev pub own_item : Kind → Option (List ℕ) → ℕ → List ℕ → List NamedItem
own_item (ItemKind i) (Some name) number tables = record { number = number; name = name; item = i; tables = tables } ∷ []
own_item _ _ number tables = []

-- and so in these tables
abbrev pub own_of : List ℕ → Resolved → List NamedItem
own_of over e = own_item e.kind e.name e.number (over ++ own_table e.occurs e.number)

-- the named elementary items of entries that these tables hold, in the order of the entries
abbrev pub named_in : List ℕ → Forest Resolved → List NamedItem
named_in over NoEntries = []
named_in over (AnEntry e children more) =
    own_of over e ++ (named_in (over ++ own_table e.occurs e.number) children ++ named_in over more)

-- a named elementary item, as it is kept
abbrev pub named_item : ListedItem → NamedItem
named_item n = record { number = n.number; name = n.name; item = n.item; tables = n.tables.items }

-- a record that is printed: its entries, its counts and where the entries stand under them, and its bytes
pub record Printed : Type 0 where
  pub tree : Forest Resolved
  pub places : Standing
  pub bytes : List ℕ

-- what is printed of these contents
abbrev pub printed_record : Contents → Printed
printed_record c = record { tree = c.layout.now; places = c.places.now; bytes = c.bytes.now }

-- the entries stand so under the record's counts
abbrev pub IsLaidOut : Printed → Type 0
IsLaidOut r = ArePlaces r.tree r.places.counts r.places

-- how often these tables occur in the record
abbrev pub table_times : Printed → List ℕ → List ℕ
table_times r tables = map (λ t. (spot_at r.places.spots t).times) tables

-- subscripts, one for each table, from 1 to as often as it occurs
abbrev pub AreSubscriptsUpTo : List ℕ → List ℕ → Type 0
AreSubscriptsUpTo [] subscripts = subscripts ≡ []
AreSubscriptsUpTo (n ∷ ns) [] = ⊥
AreSubscriptsUpTo (n ∷ ns) (s ∷ subscripts) = (0 < s) × (s ≤ n) × AreSubscriptsUpTo ns subscripts

-- the element of an item with these subscripts stands there, as long as the item is
pub record ElementStandsAt (r : Printed) (x : NamedItem) (subscripts : List ℕ) (place : Place) : Type 0 where
  pub found : option_map placed (place_of (times r.places.counts) x.number r.tree 0 0 subscripts) ≡ Some (Ok place)
  pub sized : place.length ≡ item_size x.item

-- so it does within the record's bytes, and the reference is a legal one
pub record StandsWithin (r : Printed) (x : NamedItem) (subscripts : List ℕ) : Type 0 where
  pub refers : Refers x.number subscripts r.tree
  pub place : Place
  pub at : ElementStandsAt r x subscripts place
  pub within : place.offset + place.length ≤ length r.bytes

-- so it is of each element of the item under these subscripts and further ones, one for each of the tables that are left
abbrev pub AllStand : Printed → NamedItem → List ℕ → List ℕ → Type 0
AllStand r x tables subscripts =
    (inner : List ℕ) → AreSubscriptsUpTo (table_times r tables) inner → StandsWithin r x (subscripts ++ inner)

-- so it is of all elements of these items
abbrev pub ItemsStand : Printed → List NamedItem → Type 0
ItemsStand r xs = AllByRecursion (λ (x : NamedItem). AllStand r x x.tables []) xs
