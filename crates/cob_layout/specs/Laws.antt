-- What follows from the definitions for every record.
use Rattle.std.specs.Prelude.{◌≡◌, ◌⊎◌, ℕ, ◌+◌, ◌≤◌, Bool, true, false, List, length, Option, Some, None, Ok, Result, option_map}
use Rattle.cob_copybook_tree.specs.Forests.{Forest, NoEntries, AnEntry}
use Rattle.cob_copybook_tree.specs.Nodes.{Resolved}
use Rattle.cob_copybook_tree.specs.Lengths.{sum_of}
use Rattle.cob_copybook.specs.Books.{IsRecordDescription}
use Rattle.cob_layout_places.specs.declared.counts.CountFault.{CountFault}
use Rattle.cob_layout.specs.declared.fields.Place.{Place}
use Rattle.cob_layout_places.specs.declared.places.Found.{Found}
use Rattle.cob_layout_places.specs.declared.varying.Table.{Table}
use Rattle.cob_layout_places.specs.Lengths.{times}
use Rattle.cob_layout_places.specs.Places.{place_of}
use Rattle.cob_layout_places.specs.Counts.{tables_of}
use Rattle.cob_layout_places.specs.Needs.{greatest}
use Rattle.cob_layout_places.specs.Agree.{AgreeOnCounts}
use Rattle.cob_limits.specs.Limits.{most_dimensions}
use Rattle.cob_layout_places.specs.References.{Refers}
use Rattle.cob_layout.specs.Placed.{placed}
use Rattle.cob_layout.specs.Counting.{greatest_counts, AreThose, CountsOf, IsRead, IsSparedOf, NeededOf}
use Rattle.cob_layout.specs.Storage.{IsStorage}

-- a legal reference has no more subscripts than a `Ref` has room for
abbrev pub FitsRef : Type 0
FitsRef = (tree : Forest Resolved) (r : ℕ) (subscripts : List ℕ)
    → IsRecordDescription tree → Refers r subscripts tree → length subscripts ≤ most_dimensions

-- an element that is there ends within the record's length under the same counts
abbrev pub EndInLength : Type 0
EndInLength = (tree : Forest Resolved) (counts : List ℕ) (r : ℕ) (subscripts : List ℕ) (found : Found)
    → IsRecordDescription tree → Refers r subscripts tree
    → place_of (times counts) r tree 0 0 subscripts ≡ Some found → found.within ≡ true
    → found.offset + found.length ≤ sum_of (times counts) tree

-- a place that a sender finds in a record's bytes, under the counts that it needs there, lies within these bytes
abbrev pub LieInStorage : Type 0
LieInStorage = (tree : Forest Resolved) (bytes counts : List ℕ) (r : ℕ) (subscripts : List ℕ) (p : Place)
    → IsRecordDescription tree → IsStorage tree bytes → Refers r subscripts tree
    → NeededOf tree r false bytes (Ok counts)
    → option_map placed (place_of (times counts) r tree 0 0 subscripts) ≡ Some (Ok p)
    → p.offset + p.length ≤ length bytes

-- the entry r is one of these, and all of them before it redefine an area, as it does
abbrev pub IsBehind : ℕ → Forest Resolved → Type 0
IsBehind r NoEntries = ⊥
IsBehind r (AnEntry e children more) =
    ((name : List ℕ) × (e.redefines ≡ Some name)) × ((e.number ≡ r) ⊎ IsBehind r more)

-- The entry r redefines the area that the entry a began: it stands behind a in the same group, a redefines nothing, and no entry between them
-- defines new storage.
abbrev pub IsRedefinitionOf : ℕ → ℕ → Forest Resolved → Type 0
IsRedefinitionOf r a NoEntries = ⊥
IsRedefinitionOf r a (AnEntry e children more) =
    ((e.number ≡ a) × (e.redefines ≡ None) × IsBehind r more) ⊎ (IsRedefinitionOf r a children ⊎ IsRedefinitionOf r a more)

-- where an element begins
abbrev pub offset_of : Option Found → Option ℕ
offset_of found = option_map (λ f. f.offset) found

-- a redefining entry begins where the entry that began the area begins: its first element, where it is a table
abbrev pub BeginWithArea : Type 0
BeginWithArea = (tree : Forest Resolved) (counts : List ℕ) (r a : ℕ) (subscripts : List ℕ)
    → IsRecordDescription tree → IsRedefinitionOf r a tree → Refers a subscripts tree
    → offset_of (place_of (times counts) r tree 0 0 subscripts)
    ≡ offset_of (place_of (times counts) a tree 0 0 subscripts)

-- the bytes of a storage say one thing of all counts
abbrev pub OneOfAll : Type 0
OneOfAll = (tree : Forest Resolved) (bytes : List ℕ) (a b : Result (List ℕ) CountFault)
    → CountsOf tree bytes a → CountsOf tree bytes b → a ≡ b

-- and one of those that a reference needs
abbrev pub OneOfNeeded : Type 0
OneOfNeeded = (tree : Forest Resolved) (r : ℕ) (receiving : Bool) (bytes : List ℕ) (a b : Result (List ℕ) CountFault)
    → NeededOf tree r receiving bytes a → NeededOf tree r receiving bytes b → a ≡ b

-- Where all counts of a storage are valid, those that a reference needs are, and the reference stands where it does under all counts, but for the
-- tables that it is spared, which have their greatest number.
abbrev pub AllGiveNeeded : Type 0
AllGiveNeeded = (tree : Forest Resolved) (bytes c : List ℕ) (r : ℕ) (receiving : Bool) (subscripts : List ℕ)
    (spared : List Table) → IsRecordDescription tree → Refers r subscripts tree → CountsOf tree bytes (Ok c)
    → AreThose (IsSparedOf tree r receiving) (tables_of tree) spared
    → (d : List ℕ) × NeededOf tree r receiving bytes (Ok d)
    × (place_of (times d) r tree 0 0 subscripts
    ≡ place_of (times (greatest spared c)) r tree 0 0 subscripts)

-- Storages of one length that have the same bytes where the counts stand that a reference reads give it one place, each under the counts that it
-- needs there, whatever else the storages hold.
abbrev pub OnePlaceByNeeds : Type 0
OnePlaceByNeeds = (tree : Forest Resolved) (a b c d : List ℕ) (r : ℕ) (receiving : Bool) (subscripts : List ℕ) (read : List Table)
    → length a ≡ length b
    → AreThose (IsRead tree r receiving) (tables_of tree) read
    → AgreeOnCounts tree a b read (greatest_counts tree)
    → NeededOf tree r receiving a (Ok c) → NeededOf tree r receiving b (Ok d)
    → place_of (times c) r tree 0 0 subscripts ≡ place_of (times d) r tree 0 0 subscripts

-- And so where all counts of one of them are taken, but for those that the reference is spared.
abbrev pub OnePlaceByAll : Type 0
OnePlaceByAll = (tree : Forest Resolved) (a b c d : List ℕ) (r : ℕ) (receiving : Bool) (subscripts : List ℕ)
    (read spared : List Table) → IsRecordDescription tree → Refers r subscripts tree → length a ≡ length b
    → AreThose (IsRead tree r receiving) (tables_of tree) read
    → AreThose (IsSparedOf tree r receiving) (tables_of tree) spared
    → AgreeOnCounts tree a b read (greatest_counts tree)
    → CountsOf tree a (Ok c) → NeededOf tree r receiving b (Ok d)
    → place_of (times (greatest spared c)) r tree 0 0 subscripts
    ≡ place_of (times d) r tree 0 0 subscripts
