-- Records with just one table that varies, whose count stands before it.
use Rattle.std.specs.Prelude.{◌≡◌, ◌*◌, ◌<◌, ◌≤◌, ℕ, true, List, [], ◌∷◌, Some, slice_index}
use Rattle.cob_copybook_tree.specs.Forests.{Forest}
use Rattle.cob_copybook_tree.specs.Nodes.{Resolved}
use Rattle.cob_layout_places.specs.declared.places.Found.{Found}
use Rattle.cob_layout_places.specs.declared.spots.Spot.{Spot}
use Rattle.cob_layout_places.specs.declared.varying.Table.{Table}
use Rattle.cob_layout_places.specs.Counts.{tables_of}
use Rattle.cob_layout_places.specs.Lengths.{times}
use Rattle.cob_layout_places.specs.Places.{place_of}
use Rattle.cob_layout.specs.declared.fields.Place.{Place}
use Rattle.cob_layout.specs.declared.lone.LoneTable.{LoneTable}
use Rattle.cob_layout.specs.declared.shifts.Growth.{Growth}
use Rattle.cob_layout.specs.Counting.{greatest_counts}
use Rattle.cob_layout.specs.Shifts.{sums_of}
use Rattle.cob_layout.specs.Ways.{spot_at}

-- an element that is there, at this place
abbrev pub there : Place → Found
there p = record { offset = p.offset; length = p.length; within = true }

-- the record's only table that varies, whose count stands before it: there stands the item of its count, and the sums are 0 and the bytes of its elements
pub record IsLoneIn (tree : Forest Resolved) (l : LoneTable) : Type 0 where
  pub only : tables_of tree ≡ l.table ∷ []
  pub before : l.table.count < l.table.number
  pub item : place_of (times (greatest_counts tree)) l.table.count tree 0 0 [] ≡ Some (there l.item)
  pub sums : (c : List ℕ) → slice_index c l.table.number ≤ l.table.most → sums_of tree c ≡ 0 ∷ slice_index c l.table.number * l.bytes ∷ []

-- ---- how it is seen

-- the only one of these growths is that of this table: it stands beneath none that grows, and none stands before it
abbrev pub GrowsAlone : List Growth → Table → Growth → Type 0
GrowsAlone growths x g = (growths ≡ g ∷ []) × (g.before ≡ 0) × (g.times ≡ 0) × (g.number ≡ x.number) × (g.most ≡ x.most)

-- the only one of these tables, which grows alone, and whose count stands before it, at its spot
pub record IsLoneTable (tables : List Table) (growths : List Growth) (spots : List Spot) (l : LoneTable) : Type 0 where
  pub growth : Growth
  pub only : tables ≡ l.table ∷ []
  pub before : l.table.count < l.table.number
  pub alone : GrowsAlone growths l.table growth
  pub bytes : l.bytes ≡ growth.bytes
  pub item : l.item ≡ record { offset = (spot_at spots l.table.count).offset; length = (spot_at spots l.table.count).length }
