-- What holds of the tree of every record description.
use Rattle.std.specs.Prelude.{◌≡◌, ◌⊎◌, ℕ, ◌+◌, ◌<◌, ◌≤◌, true, false, [], None}
use Rattle.std.specs.List.{AllByRecursion}
use Rattle.cob_copybook_tree.specs.declared.node.Kind.{Kind}
use Rattle.cob_copybook_tree.specs.declared.node.Kind.TheVariants.{Group, Item as ItemKind}
use Rattle.cob_copybook_tree.specs.declared.node.ResolvedOccurs.{ResolvedOccurs}
use Rattle.cob_copybook_tree.specs.declared.node.ResolvedOccurs.TheVariants.{Once, Fixed, Varying}
use Rattle.cob_copybook_tree.specs.Forests.{Forest, NoEntries, AnEntry}
use Rattle.cob_copybook_tree.specs.Nodes.{Resolved}
use Rattle.cob_limits.specs.Limits.{most_dimensions}
use Rattle.cob_copybook_rules.specs.Areas.{AreAreas}
use Rattle.cob_copybook_rules.specs.Values.{AreValues}
use Rattle.cob_copybook.specs.Books.{IsRecordDescription}
use Rattle.cob_layout_places.specs.declared.varying.Table.{Table}
use Rattle.cob_layout_places.specs.Lengths.{FitsInRecord}
use Rattle.cob_layout_places.specs.Places.{is_table}
use Rattle.cob_layout_places.specs.Needs.{Has}
use Rattle.cob_layout_places.specs.Cover.{AreNumbered}
use Rattle.cob_layout_places.specs.Counts.{AreCountable, tables_of}
use Rattle.cob_copybook_tree.specs.Items.{IsStorable}

-- an item can be stored
abbrev pub IsStorableKind : Kind → Type 0
IsStorableKind Group = Unit {0}
IsStorableKind (ItemKind i) = IsStorable i

-- each item can be stored
abbrev pub AreStorable : Forest Resolved → Type 0
AreStorable NoEntries = Unit {0}
AreStorable (AnEntry e children more) = IsStorableKind e.kind × AreStorable children × AreStorable more

-- a group has an entry beneath it
abbrev pub HoldsSome : Kind → Forest Resolved → Type 0
HoldsSome (ItemKind i) children = Unit {0}
HoldsSome Group NoEntries = ⊥
HoldsSome Group (AnEntry e children more) = Unit {0}

-- each group has one
abbrev pub HoldSome : Forest Resolved → Type 0
HoldSome NoEntries = Unit {0}
HoldSome (AnEntry e children more) = HoldsSome e.kind children × HoldSome children × HoldSome more

-- one for a table
abbrev pub own_dimension : ResolvedOccurs → ℕ
own_dimension Once = 0
own_dimension (Fixed n) = 1
own_dimension (Varying least most count) = 1

-- beneath so many tables, no more than 7 stand within one another
abbrev pub AreNested : ℕ → Forest Resolved → Type 0
AreNested n NoEntries = Unit {0}
AreNested n (AnEntry e children more) =
    (n + own_dimension e.occurs ≤ most_dimensions) × AreNested (n + own_dimension e.occurs) children × AreNested n more

-- the entry with this number stands beneath a table
abbrev pub InTable : ℕ → Forest Resolved → Type 0
InTable a NoEntries = ⊥
InTable a (AnEntry e children more) = ((is_table e.occurs ≡ true) × Has a children) ⊎ (InTable a children ⊎ InTable a more)

-- the count of a table that varies stands before the table, and beneath none
pub record IsAhead (f : Forest Resolved) (x : Table) : Type 0 where
  pub before : x.count < x.number
  pub single : InTable x.count f → ⊥

-- one entry holds all others, and redefines nothing
abbrev pub RedefinesNothing : Forest Resolved → Type 0
RedefinesNothing NoEntries = ⊥
RedefinesNothing (AnEntry e children NoEntries) = e.redefines ≡ None
RedefinesNothing (AnEntry e children (AnEntry next beneath more)) = ⊥

-- The entries may occur, items hold none, redefinitions stay in their areas and the record isn't too long; groups hold some, and redefinitions
-- stand where they may, so that neither side of one varies; the entries are numbered from 0; no more than 7 tables stand within one another;
-- each table that varies is counted by a whole number, which stands before it and in no table; each item can be stored; the values fit; and
-- one entry, the record, holds all others and redefines nothing.
pub record IsSound (tree : Forest Resolved) : Type 0 where
  pub fit : FitsInRecord 0 tree
  pub filled : HoldSome tree
  pub areas : AreAreas [] tree
  pub numbered : AreNumbered 0 tree
  pub nested : AreNested 0 tree
  pub countable : AreCountable tree (tables_of tree)
  pub ahead : AllByRecursion (IsAhead tree) (tables_of tree)
  pub storable : AreStorable tree
  pub values : AreValues false false tree
  pub first : RedefinesNothing tree

-- so it is of every record description
abbrev pub RecordsAreSound : Type 0
RecordsAreSound = (tree : Forest Resolved) → IsRecordDescription tree → IsSound tree
