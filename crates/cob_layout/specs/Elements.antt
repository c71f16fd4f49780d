-- Elements that one count decides, and that only by whether they are there.
use Rattle.std.specs.Prelude.{◌≡◌, ◌⊎◌, ℕ, ◌+◌, ◌≤◌, Bool, true, List, [], ◌∷◌, length, Option, Some, Ok, slice_set}
use Rattle.cob_copybook_tree.specs.Forests.{Forest}
use Rattle.cob_copybook_tree.specs.Nodes.{Resolved}
use Rattle.cob_layout_places.specs.declared.reference.Ref.{Ref}
use Rattle.cob_layout_places.specs.declared.varying.Table.{Table}
use Rattle.cob_layout_places.specs.Counts.{tables_of}
use Rattle.cob_layout_places.specs.Needs.{is_read, keep}
use Rattle.cob_layout_places.specs.References.{Refers}
use Rattle.cob_layout.specs.declared.counts.StoredCount.{StoredCount}
use Rattle.cob_layout.specs.declared.elements.ElementPlace.{ElementPlace}
use Rattle.cob_layout.specs.declared.fields.Place.{Place}
use Rattle.cob_layout.specs.declared.keeping.Needed.{Needed}
use Rattle.cob_layout.specs.declared.shifts.Shift.{Shift}
use Rattle.cob_layout.specs.Counting.{greatest_counts}
use Rattle.cob_layout.specs.Finding.{IsFound}
use Rattle.cob_layout.specs.Footings.{shift_at}
use Rattle.cob_layout.specs.Kept.{AreKeptOf, is_asked_by}
use Rattle.cob_layout.specs.Placed.{placed_under}
use Rattle.cob_layout.specs.Sound.{IsSound}
use Rattle.cob_layout.specs.Storage.{greatest_length}

-- so many elements has this table, and all others that vary have as many as they have at most
abbrev pub counts_with : Forest Resolved → Table → ℕ → List ℕ
counts_with tree x v = slice_set (greatest_counts tree) x.number v

-- A reference, which receives or not, reads the count of the first table that varies, and of no other one; and where that table has so many elements at
-- least, it stands there, however many they are.
pub record IsElementPlace (tree : Forest Resolved) (r : Ref) (receiving : Bool) (e : ElementPlace) : Type 0 where
  pub table : Table
  pub others : List Table
  pub first : tables_of tree ≡ table ∷ others
  pub reads : is_read tree r.node receiving table ≡ true
  pub alone : keep (is_read tree r.node receiving) others ≡ []
  pub stands : (v : ℕ) → e.least ≤ v → v ≤ table.most → placed_under (counts_with tree table v) tree r ≡ Some (Ok e.place)
  pub within : e.place.offset + e.place.length ≤ greatest_length tree

-- the count of the first table that varies is kept, and by that it has so many elements
abbrev pub IsThereBy : List (Option StoredCount) → ElementPlace → Type 0
IsThereBy ks e = (k : StoredCount) × (others : List (Option StoredCount)) × (ks ≡ Some k ∷ others) × (e.least ≤ k.number)

-- none is asked for, or the count of the first table that varies is kept and by that it has so many elements
abbrev pub HaveSoMany : List (Option StoredCount) → ℕ → Type 0
HaveSoMany ks least = (least ≡ 0) ⊎ ((k : StoredCount) × (others : List (Option StoredCount)) × (ks ≡ Some k ∷ others) × (least ≤ k.number))

-- Law: where the count of its table is kept and the element is there by that, the reference stands there in the storage of which it is kept.
abbrev pub KeptPlaceElements : Type 0
KeptPlaceElements = (tree : Forest Resolved) (bytes : List ℕ) (ks : List (Option StoredCount)) (r : Ref) (receiving : Bool) (e : ElementPlace)
    → IsSound tree → Refers r.node r.subscripts.items tree → length ks ≡ length (tables_of tree) → AreKeptOf tree bytes ks → IsElementPlace tree r receiving e → IsThereBy ks e → IsFound tree r receiving bytes (Ok e.place)

-- ---- how it is seen

-- of these tables just the first one is needed
abbrev pub IsOnlyNeeded : Needed → List Table → Table → Type 0
IsOnlyNeeded needed xs x = (others : List Table) × (xs ≡ x ∷ others) × (is_asked_by needed x ≡ true) × (keep (is_asked_by needed) others ≡ [])

-- no table that grows ends before the first element of this entry does
abbrev pub Stays : List Shift → ℕ → Type 0
Stays shifts k = (shift_at shifts k).through ≡ 0

-- nor does one before that of any of these, none of which is this one
abbrev pub AllStay : List Shift → List ℕ → ℕ → Type 0
AllStay shifts [] x = Unit {0}
AllStay shifts (t ∷ ts) x = Stays shifts t × (t ≡ x → ⊥) × AllStay shifts ts x

-- Of these tables, which hold the entry r or which it is, the outermost is this one, and no table that grows ends before the first element of any does, nor
-- before that of r.
abbrev pub RestsOn : List Shift → List ℕ → ℕ → ℕ → Type 0
RestsOn shifts ts x r = (inner : List ℕ) × (ts ≡ x ∷ inner) × Stays shifts x × Stays shifts r × AllStay shifts inner x
