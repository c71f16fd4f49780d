-- The counts of a record's tables, and where its entries stand under them.
use Rattle.std.specs.Prelude.{◌≡◌, ◌&&◌, ◌||◌, nat_lt, ℕ, ◌+◌, ◌≤◌, Bool, true, false, List, [], ◌∷◌, length, replicate, Option, Some, None, Ok, if◌then◌else◌}
use Rattle.std.specs.List.{AllByRecursion}
use Rattle.cob_copybook_tree.specs.Forests.{Forest, entries_in}
use Rattle.cob_copybook_tree.specs.Nodes.{Resolved}
use Rattle.cob_layout.specs.declared.counts.KeptRange.{KeptRange}
use Rattle.cob_layout.specs.declared.counts.StoredCount.{StoredCount}
use Rattle.cob_layout.specs.declared.fields.Place.{Place}
use Rattle.cob_layout.specs.declared.shifts.Growth.{Growth}
use Rattle.cob_layout_places.specs.declared.spots.Spot.{Spot}
use Rattle.cob_layout_places.specs.declared.varying.Table.{Table}
use Rattle.cob_layout_places.specs.Lengths.{times}
use Rattle.cob_layout_places.specs.Spots.{spots_of}
use Rattle.cob_layout_places.specs.Counts.{tables_of}
use Rattle.cob_layout.specs.Counting.{CountsOf}
use Rattle.cob_layout.specs.Kept.{AreKeptOf}
use Rattle.cob_layout.specs.Shifts.{growths_from}

-- How a record stands: the counts of its tables and the spots of its entries, by the numbers of the entries; the counts of a storage that are kept, in
-- the order of the tables; and the record's own: its tables that vary, and how those grow that grow.
pub record Standing : Type 0 where
  pub counts : List ℕ
  pub spots : List Spot
  pub kept : List (Option StoredCount)
  pub tables : List Table
  pub growths : List Growth

-- these counts and spots, of which none is kept of a storage
abbrev pub none_kept : List ℕ → List Spot → List Table → List Growth → Standing
none_kept counts spots tables growths =
    record { counts = counts; spots = spots; kept = replicate (length tables) None; tables = tables; growths = growths }

-- How much room there is, and how much a record needs: a count for each entry, and one that is kept for each table that varies; and for which tables, and
-- which of them that grow, it is.
pub record RoomForCounts : Type 0 where
  pub entries : ℕ
  pub tables : ℕ
  pub varying : List Table
  pub growths : List Growth

-- how much room there is
abbrev pub room_in : Standing → RoomForCounts
room_in s = record { entries = length s.counts; tables = length s.kept; varying = s.tables; growths = s.growths }

-- how much this record needs
abbrev pub room_for : Forest Resolved → RoomForCounts
room_for tree = record {
  entries = entries_in tree;
  tables = length (tables_of tree);
  varying = tables_of tree;
  growths = growths_from (spots_of (times []) tree 0 0) 0 tree;
}

-- there is room for this record
abbrev pub IsRoomFor : Forest Resolved → Standing → Type 0
IsRoomFor tree s = room_in s ≡ room_for tree

-- the record has these counts, and its entries stand where they do under them
abbrev pub ArePlaces : Forest Resolved → List ℕ → Standing → Type 0
ArePlaces tree counts s = (s.counts ≡ counts) × (s.spots ≡ spots_of (times counts) tree 0 0)

-- so it is under some counts
abbrev pub AreSomePlaces : Forest Resolved → Standing → Type 0
AreSomePlaces tree s = (counts : List ℕ) × ArePlaces tree counts s

-- so it is under the counts that the bytes of a storage give
abbrev pub StandsIn : Forest Resolved → List ℕ → Standing → Type 0
StandsIn tree bytes s = (counts : List ℕ) × CountsOf tree bytes (Ok counts) × ArePlaces tree counts s

-- none of these counts is kept
abbrev pub are_unkept : List (Option StoredCount) → Bool
are_unkept [] = true
are_unkept (None ∷ ks) = are_unkept ks
are_unkept (Some k ∷ ks) = false

-- none is kept
abbrev pub KeepsNone : Standing → Type 0
KeepsNone s = are_unkept s.kept ≡ true

-- the same, and none is kept
abbrev pub forgotten : Standing → Standing
forgotten s = record {
  counts = s.counts;
  spots = s.spots;
  kept = replicate (length s.kept) None;
  tables = s.tables;
  growths = s.growths;
}

-- the counts that are kept are those of this storage
abbrev pub KeepsOf : Forest Resolved → List ℕ → Standing → Type 0
KeepsOf tree bytes s = AreKeptOf tree bytes s.kept

-- the first place has a byte that is one of the second's
abbrev pub meets : Place → Place → Bool
meets p q = nat_lt 0 p.length && (nat_lt p.offset (q.offset + q.length) && nat_lt q.offset (p.offset + p.length))

-- the place meets the item of a count that is kept
abbrev pub meets_item : Place → Option StoredCount → Bool
meets_item p None = false
meets_item p (Some k) = meets p k.place

-- the place meets the item of one of the counts that are kept
abbrev pub meets_kept : Place → List (Option StoredCount) → Bool
meets_kept p [] = false
meets_kept p (k ∷ ks) = meets_item p k || meets_kept p ks

-- what a write to a place leaves: no count is kept where it meets the item of one that was
abbrev pub written : Place → Standing → Standing
written p s = if meets_kept p s.kept then forgotten s else s

-- the item of a count lies within the range, where the count is kept
abbrev pub LiesWithin : KeptRange → Option StoredCount → Type 0
LiesWithin r None = Unit {0}
LiesWithin r (Some k) = (r.from ≤ k.place.offset) × (k.place.offset + k.place.length ≤ r.end)

-- so do those of all counts that are kept
abbrev pub LieWithin : KeptRange → List (Option StoredCount) → Type 0
LieWithin r ks = AllByRecursion (LiesWithin r) ks

-- none of these tables
abbrev pub are_none : List Table → Bool
are_none [] = true
are_none (x ∷ xs) = false

-- the number of the first of these tables
abbrev pub first_number : List Table → ℕ
first_number [] = 0
first_number (x ∷ xs) = x.number
