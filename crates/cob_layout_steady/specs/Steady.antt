-- Elements that begin at the same byte of each record.
use Rattle.std.specs.Prelude.{◌≡◌, ℕ, List, Option, Ok, Err, Result}
use Rattle.cob_copybook_tree.specs.Forests.{Forest}
use Rattle.cob_copybook_tree.specs.Nodes.{Resolved}
use Rattle.cob_layout_places.specs.Lengths.{times}
use Rattle.cob_layout_places.specs.Places.{place_of}
use Rattle.cob_layout.specs.Laws.{offset_of}
use Rattle.cob_layout.specs.declared.fields.Place.{Place}
use Rattle.cob_layout.specs.declared.layout.PlaceFault.{PlaceFault}

-- where the element of an entry under these subscripts begins in a record whose tables have these counts
abbrev pub begins_under : List ℕ → Forest Resolved → ℕ → List ℕ → Option ℕ
begins_under counts tree number subscripts = offset_of (place_of (times counts) number tree 0 0 subscripts)

-- It begins at the same byte of each record: whatever the counts of two records are.
abbrev pub IsSteady : Forest Resolved → ℕ → List ℕ → Type 0
IsSteady tree number subscripts = (counts others : List ℕ) → begins_under counts tree number subscripts ≡ begins_under others tree number subscripts

-- where an element begins, or would begin
abbrev pub offset_by : Result Place PlaceFault → ℕ
offset_by (Ok place) = place.offset
offset_by (Err fault) = fault.offset
