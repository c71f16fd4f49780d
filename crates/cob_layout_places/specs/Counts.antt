-- The counts of the tables of a storage.
use Rattle.std.specs.Prelude.{◌≡◌, ◌⊎◌, ℕ, ◌+◌, ◌<◌, ◌≤◌, pos, Bool, true, false, ◌==◌, List, [], ◌∷◌, ◌++◌, length, take, drop, Option, Some, None, Ok, Err, Result, slice_set}
use Rattle.std.specs.List.{AllByRecursion}
use Rattle.cob_decimal.specs.Decimal.{number_of}
use Rattle.cob_codec.specs.Naturals.{IsNaturalOf}
use Rattle.cob_picture.specs.Counts.{scale}
use Rattle.cob_copybook_tree.specs.declared.node.Item.{Item}
use Rattle.cob_copybook_tree.specs.declared.node.Kind.{Kind}
use Rattle.cob_copybook_tree.specs.declared.node.Kind.TheVariants.{Item as ItemKind}
use Rattle.cob_copybook_tree.specs.declared.node.ResolvedOccurs.{ResolvedOccurs}
use Rattle.cob_copybook_tree.specs.declared.node.ResolvedOccurs.TheVariants.{Once, Fixed, Varying}
use Rattle.cob_copybook_tree.specs.Forests.{Forest, NoEntries, AnEntry}
use Rattle.cob_copybook_tree.specs.Nodes.{Resolved}
use Rattle.cob_copybook_tree.specs.Items.{IsNumberItem, Represents}
use Rattle.cob_layout_places.specs.declared.counts.CountFault.{CountFault}
use Rattle.cob_layout_places.specs.declared.places.Found.{Found}
use Rattle.cob_layout_places.specs.declared.varying.Table.{Table}
use Rattle.cob_layout_places.specs.Lengths.{times}
use Rattle.cob_layout_places.specs.Places.{place_of, or_else, choose}

-- an entry that varies is a table with a count
abbrev pub table_of : ResolvedOccurs → ℕ → List Table
table_of Once number = []
table_of (Fixed n) number = []
table_of (Varying least most count) number = record { number = number; least = least; most = most; count = count } ∷ []

-- the tables that vary, in the order of the entries
abbrev pub tables_of : Forest Resolved → List Table
tables_of NoEntries = []
tables_of (AnEntry e children more) = table_of e.occurs e.number ++ (tables_of children ++ tables_of more)

-- what the entry with this number describes
abbrev pub kind_in : ℕ → Forest Resolved → Option Kind
kind_in number NoEntries = None
kind_in number (AnEntry e children more) = or_else (choose (e.number == number) e.kind (kind_in number children)) (kind_in number more)

-- The count of a table is an item of the record that is a number without a fraction.
pub record IsCountable (tree : Forest Resolved) (x : Table) : Type 0 where
  pub item : Item
  pub is : kind_in x.count tree ≡ Some (ItemKind item)
  pub number : IsNumberItem item
  pub whole : scale item.picture.positions ≡ pos 0

-- each table's count is so
abbrev pub AreCountable : Forest Resolved → List Table → Type 0
AreCountable tree xs = AllByRecursion (IsCountable tree) xs

-- the counts have a place for each table
abbrev pub AreNumberedBelow : ℕ → List Table → Type 0
AreNumberedBelow n xs = AllByRecursion (λ (x : Table). x.number < n) xs

-- so many bytes of a storage, from an offset on
abbrev pub bytes_at : ℕ → ℕ → List ℕ → List ℕ
bytes_at offset long bytes = take long (drop offset bytes)

-- the bytes of an item represent this number, which is not below zero, without its scale
abbrev pub IsNatural : Item → List ℕ → ℕ → Type 0
IsNatural i part v = IsNaturalOf (Represents i) part v

-- These bytes of a table's count give this number: they represent it, and it is from the table's least to its greatest one. What is below zero
-- is none; minus zero is zero.
pub record IsCountValue (i : Item) (x : Table) (part : List ℕ) (v : ℕ) : Type 0 where
  pub digits : List ℕ
  pub represents : Represents i part false digits
  pub value : v ≡ number_of digits
  pub least : x.least ≤ v
  pub most : v ≤ x.most

-- the count's item ends past the bytes; or it doesn't, and gives no number
abbrev pub IsFaulty : Bool → Item → Table → Found → List ℕ → Type 0
IsFaulty true i x f bytes = length bytes < f.offset + f.length
IsFaulty false i x f bytes = (f.offset + f.length ≤ length bytes) × ((v : ℕ) → IsCountValue i x (bytes_at f.offset f.length bytes) v → ⊥)

-- what the bytes say of a table whose count stands there: a number, or a fault of the count's place
abbrev pub SaysOfTable : Item → Table → Found → List ℕ → Result ℕ CountFault → Type 0
SaysOfTable i x f bytes (Ok v) = (f.offset + f.length ≤ length bytes) × IsCountValue i x (bytes_at f.offset f.length bytes) v
SaysOfTable i x f bytes (Err e) = (e.offset ≡ f.offset) × IsFaulty e.short i x f bytes

-- what the bytes say of a table whose count's place follows from the counts so far
pub record IsCounted (tree : Forest Resolved) (bytes : List ℕ) (x : Table) (c : List ℕ) (r : Result ℕ CountFault) : Type 0 where
  pub item : Item
  pub is : kind_in x.count tree ≡ Some (ItemKind item)
  pub found : Found
  pub stands : place_of (times c) x.count tree 0 0 [] ≡ Some found
  pub says : SaysOfTable item x found bytes r

-- wherever counts let the table's count stand there, the bytes say this of the table
abbrev pub IsCountedThere : Forest Resolved → List ℕ → Table → Found → Result ℕ CountFault → Type 0
IsCountedThere tree bytes x f r = (counts : List ℕ) → place_of (times counts) x.count tree 0 0 [] ≡ Some f → IsCounted tree bytes x counts r

-- What the bytes say of these tables, one behind another, from these counts on: the counts with each table's number in its place, or the fault of
-- the first table that has one. The place of a count follows from the counts of the tables before.
abbrev pub Taken : Forest Resolved → List ℕ → List Table → List ℕ → Result (List ℕ) CountFault → Type 0
Taken tree bytes [] c r = r ≡ Ok c
Taken tree bytes (x ∷ xs) c r =
    ((v : ℕ) × IsCounted tree bytes x c (Ok v) × Taken tree bytes xs (slice_set c x.number v) r)
    ⊎ ((e : CountFault) × IsCounted tree bytes x c (Err e) × (r ≡ Err e))

-- bytes say one thing of tables
abbrev pub OneOutcome : Type 0
OneOutcome = (tree : Forest Resolved) (bytes : List ℕ) (xs : List Table) (c : List ℕ) (r s : Result (List ℕ) CountFault) → Taken tree bytes xs c r → Taken tree bytes xs c s → r ≡ s
