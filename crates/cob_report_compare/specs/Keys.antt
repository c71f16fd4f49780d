-- The keys of records, and how they are ordered.
use Rattle.std.specs.Prelude.{◌≡◌, ℕ, ◌+◌, ◌≤◌, ◌⊎◌, Bool, true, false, List, [], ◌∷◌, ◌++◌, length, take, drop}
use Rattle.std.specs.Cmp.Lexicographic.{slice_cmp}
use Rattle.std.specs.Ordering.{nat_cmp}
use Rattle.std.specs.declared.cmp.Ordering.{Ordering}
use Rattle.std.specs.declared.cmp.Ordering.TheVariants.{Less, Equal, Greater}
use Rattle.std.specs.List.{AllByRecursion}
use Rattle.cob_copybook_tree.specs.declared.node.Item.{Item}
use Rattle.cob_copybook_tree.specs.Forests.{Forest}
use Rattle.cob_copybook_tree.specs.Items.{IsNumberItem, Represents}
use Rattle.cob_copybook_tree.specs.Lengths.{item_size}
use Rattle.cob_copybook_tree.specs.Nodes.{Resolved}
use Rattle.cob_decimal.specs.Decimal.{number_of}
use Rattle.cob_layout.specs.declared.fields.Place.{Place}
use Rattle.cob_layout.specs.Fields.{field_of}
use Rattle.cob_report_show.specs.Elements.{ElementStandsAt, NamedItem, Printed, named_in}

-- ---- the items of a key

-- this is one of these items
abbrev pub IsAmong : NamedItem → List NamedItem → Type 0
IsAmong x [] = ⊥
IsAmong x (y ∷ ys) = (x ≡ y) ⊎ IsAmong x ys

-- an item that a key may have: one of the named items of the record, in no table
abbrev pub IsKeyItem : List NamedItem → NamedItem → Type 0
IsKeyItem named x = IsAmong x named × (x.tables ≡ [])

-- the items of a key of records with these entries
abbrev pub AreKeyItems : Forest Resolved → List NamedItem → Type 0
AreKeyItems tree keys = AllByRecursion (IsKeyItem (named_in [] tree)) keys

-- how many items a key has at most
abbrev pub most_keys : ℕ
most_keys = 16

-- how many bytes they have together
abbrev pub key_size : List NamedItem → ℕ
key_size [] = 0
key_size (x ∷ xs) = item_size x.item + key_size xs

-- ---- keys

-- What one item of a key holds: a number, negative or not, of so many units; or characters. Zero is not negative.
pub data KeyPart : Type 0 where
  Numeral : Bool → ℕ → KeyPart
  Letters : List ℕ → KeyPart

-- how two numbers stand to one another
abbrev pub number_order : Bool → ℕ → Bool → ℕ → Ordering
number_order false m false n = nat_cmp m n
number_order false m true n = Greater
number_order true m false n = Less
number_order true m true n = nat_cmp n m

-- the same by their digits, of which both have as many
abbrev pub digits_order : Bool → List ℕ → Bool → List ℕ → Ordering
digits_order false ds false es = slice_cmp nat_cmp ds es
digits_order false ds true es = Greater
digits_order true ds false es = Less
digits_order true ds true es = slice_cmp nat_cmp es ds

-- How two parts stand: numbers by their values, and characters by their bytes, which are their codes in code page 037. The same item is a number in all
-- records, or in none.
abbrev pub part_order : KeyPart → KeyPart → Ordering
part_order (Numeral a m) (Numeral b n) = number_order a m b n
part_order (Numeral a m) (Letters ys) = Less
part_order (Letters xs) (Numeral b n) = Greater
part_order (Letters xs) (Letters ys) = slice_cmp nat_cmp xs ys

-- how two keys stand: as the first of their parts that are not alike
abbrev pub key_order : List KeyPart → List KeyPart → Ordering
key_order a b = slice_cmp part_order a b

-- these bytes of an item are this part of a key
abbrev pub IsKeyPart : Item → List ℕ → KeyPart → Type 0
IsKeyPart i bytes (Numeral negative n) = IsNumberItem i × ((digits : List ℕ) × Represents i bytes negative digits × (n ≡ number_of digits))
IsKeyPart i bytes (Letters text) = (IsNumberItem i → ⊥) × (text ≡ bytes)

-- the bytes of these items, one behind another, are this key
abbrev pub AreKeyParts : List NamedItem → List ℕ → List KeyPart → Type 0
AreKeyParts [] bytes key = key ≡ []
AreKeyParts (x ∷ xs) bytes [] = ⊥
AreKeyParts (x ∷ xs) bytes (part ∷ key) = IsKeyPart x.item (take (item_size x.item) bytes) part × AreKeyParts xs (drop (item_size x.item) bytes) key

-- ---- the key of a record

-- an item of a key stands there in a record, within its bytes
pub record KeyStandsAt (r : Printed) (x : NamedItem) (place : Place) : Type 0 where
  pub at : ElementStandsAt r x [] place
  pub within : place.offset + place.length ≤ length r.bytes

-- these are the bytes of the items of a key in a record, one behind another
abbrev pub AreKeyBytes : List NamedItem → Printed → List ℕ → Type 0
AreKeyBytes [] r bytes = bytes ≡ []
AreKeyBytes (x ∷ xs) r bytes =
    (place : Place) × (behind : List ℕ) × KeyStandsAt r x place × AreKeyBytes xs r behind × (bytes ≡ field_of place r.bytes ++ behind)

-- the bytes of an item represent no number
abbrev pub IsNoNumber : Item → List ℕ → Type 0
IsNoNumber i bytes = IsNumberItem i × ((negative : Bool) (digits : List ℕ) → Represents i bytes negative digits → ⊥)

-- the first item of a key that is no number stands at this offset of a record
abbrev pub IsNoKeyAt : List NamedItem → Printed → ℕ → Type 0
IsNoKeyAt [] r offset = ⊥
IsNoKeyAt (x ∷ xs) r offset =
    (place : Place) × KeyStandsAt r x place
    × ((IsNoNumber x.item (field_of place r.bytes) × (offset ≡ place.offset))
    ⊎ (((part : KeyPart) × IsKeyPart x.item (field_of place r.bytes) part) × IsNoKeyAt xs r offset))

-- a key begins at this offset of a record
abbrev pub BeginsKeyAt : List NamedItem → Printed → ℕ → Type 0
BeginsKeyAt [] r offset = ⊥
BeginsKeyAt (x ∷ xs) r offset = (place : Place) × KeyStandsAt r x place × (offset ≡ place.offset)
