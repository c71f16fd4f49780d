-- The lines that are printed of the entries of a copybook.
use Rattle.std.specs.Prelude.{◌≡◌, ℕ, ◌==◌, nat_lt, if◌then◌else◌, List, [], ◌∷◌, ◌++◌, length, find, flat_map, codes, decimal, Option, Some, None, Ok, Err, Result}
use Rattle.cob_picture.specs.declared.category.Category.{Category}
use Rattle.cob_picture.specs.declared.category.Category.TheVariants.{Alphabetic, Numeric, Alphanumeric, AlphanumericEdited, NumericEdited}
use Rattle.cob_records.specs.declared.records.RecordFault.{RecordFault}
use Rattle.cob_records.specs.Frame.{taken_of}
use Rattle.cob_copybook_tree.specs.declared.node.Item.{Item}
use Rattle.cob_copybook_tree.specs.declared.node.Kind.{Kind}
use Rattle.cob_copybook_tree.specs.declared.node.Kind.TheVariants.{Group, Item as ItemKind}
use Rattle.cob_copybook_tree.specs.declared.node.ResolvedOccurs.{ResolvedOccurs}
use Rattle.cob_copybook_tree.specs.declared.node.ResolvedOccurs.TheVariants.{Once, Fixed, Varying}
use Rattle.cob_copybook_tree.specs.Forests.{Forest, flat}
use Rattle.cob_copybook_tree.specs.Items.{storage_kind}
use Rattle.cob_copybook_tree.specs.Nodes.{Resolved}
use Rattle.cob_copybook_tree.specs.Resolving.{is_number}
use Rattle.cob_copybook_tree.specs.Storage.{storage_word}
use Rattle.cob_layout_places.specs.declared.spots.Spot.{Spot}
use Rattle.cob_layout_places.specs.Lengths.{times}
use Rattle.cob_layout_places.specs.Spots.{spots_of}
use Rattle.cob_layout.specs.Counting.{greatest_counts}
use Rattle.cob_layout.specs.Ways.{spot_at}
use Rattle.cob_copybook_conditions.specs.Names.{PlainConditionName}
use Rattle.cob_report_show.specs.Conditions.{name_lines}
use Rattle.cob_report_show.specs.Sent.{IsBeginning, sent_after}

-- a level in two digits: one of a single digit has a zero in front
abbrev pub level_text : ℕ → List ℕ
level_text level = if nat_lt level 10 then 48 ∷ decimal level else decimal level

-- the name of an entry, which is FILLER where it has none
abbrev pub name_or_filler : Option (List ℕ) → List ℕ
name_or_filler None = codes "FILLER"
name_or_filler (Some name) = name

-- what an item is that is no number: the category of its picture; a numeric one has BLANK WHEN ZERO, which makes it an edited one
abbrev pub category_word : Category → List ℕ
category_word Alphabetic = codes "alphabetic"
category_word Alphanumeric = codes "alphanumeric"
category_word AlphanumericEdited = codes "alphanumeric-edited"
category_word NumericEdited = codes "numeric-edited"
category_word Numeric = codes "numeric-edited"

-- what an item is
abbrev pub item_word : Item → List ℕ
item_word i = if is_number i then storage_word (storage_kind i) else category_word i.picture.category

-- what an entry is: a group, or what its item is
abbrev pub kind_word : Kind → List ℕ
kind_word Group = codes "group"
kind_word (ItemKind i) = item_word i

-- the offset of the first element of an entry, and its length, each behind a space
abbrev pub spot_text : Spot → List ℕ
spot_text spot = 32 ∷ (decimal spot.offset ++ 32 ∷ decimal spot.length)

-- which entry an entry redefines, where it redefines one
abbrev pub redefines_text : Option (List ℕ) → List ℕ
redefines_text None = []
redefines_text (Some name) = codes " redefines " ++ name

-- the name of an entry that was found
abbrev pub found_name : Option Resolved → List ℕ
found_name None = []
found_name (Some e) = name_or_filler e.name

-- the name of the entry with this number
abbrev pub name_by_number : ℕ → Forest Resolved → List ℕ
name_by_number number tree = found_name (find (λ (e : Resolved). e.number == number) (flat tree))

-- how often an entry occurs, where it is a table: a number of times, or from a least to a greatest number on the item that counts it
abbrev pub occurs_text : Forest Resolved → ResolvedOccurs → List ℕ
occurs_text tree Once = []
occurs_text tree (Fixed n) = codes " occurs " ++ decimal n
occurs_text tree (Varying least most count) =
    codes " occurs " ++ (decimal least ++ 32 ∷ (decimal most ++ (codes " on " ++ name_by_number count tree)))

-- where the first element of an entry stands where each table has its greatest number of elements
abbrev pub greatest_spot : Forest Resolved → ℕ → Spot
greatest_spot tree number = spot_at (spots_of (times (greatest_counts tree)) tree 0 0) number

-- The line of an entry of a record: its level and its name, the offset and the length of its first element where each table has its greatest
-- number of elements, what it is, which entry it redefines, and how often it occurs.
abbrev pub entry_line : Forest Resolved → Resolved → List ℕ
entry_line tree e =
    level_text e.level ++ 32 ∷ (name_or_filler e.name ++ (spot_text (greatest_spot tree e.number)
    ++ 32 ∷ (kind_word e.kind ++ (redefines_text e.redefines ++ (occurs_text tree e.occurs ++ 10 ∷ [])))))

-- the line of an entry has at most so many bytes
abbrev pub longest_line : ℕ
longest_line = 200

-- the lines of an entry: its own, and behind it those of its condition-names
abbrev pub lines_of : Forest Resolved → List PlainConditionName → Resolved → List ℕ
lines_of tree names e = entry_line tree e ++ name_lines names e.number

-- the lines of some entries of a record, in their order
abbrev pub lines_among : Forest Resolved → List PlainConditionName → Forest Resolved → List ℕ
lines_among tree names entries = flat_map (lines_of tree names) (flat entries)

-- the lines of all entries of a record
abbrev pub entry_lines : Forest Resolved → List PlainConditionName → List ℕ
entry_lines tree names = lines_among tree names tree

-- What a call that lists the entries says of the part that the sink took: it is just their lines; or where the sink failed a beginning of them, and
-- the fault says how many bytes that has, up to the greatest count.
abbrev pub ListsEntries : Forest Resolved → List PlainConditionName → Result (Unit {0}) RecordFault → List ℕ → Type 0
ListsEntries tree names (Ok done) part = part ≡ entry_lines tree names
ListsEntries tree names (Err fault) part = IsBeginning part (entry_lines tree names) × (taken_of fault ≡ sent_after 0 part)
