-- Where an element stands, or would stand.
use Rattle.std.specs.Prelude.{ℕ, List, if◌then◌else◌, Option, option_map, Ok, Err, Result}
use Rattle.cob_copybook_tree.specs.Forests.{Forest}
use Rattle.cob_copybook_tree.specs.Nodes.{Resolved}
use Rattle.cob_layout_places.specs.Lengths.{times}
use Rattle.cob_layout_places.specs.Places.{place_of}
use Rattle.cob_layout_places.specs.declared.reference.Ref.{Ref}
use Rattle.cob_layout.specs.declared.fields.Place.{Place}
use Rattle.cob_layout_places.specs.declared.places.Found.{Found}
use Rattle.cob_layout.specs.declared.layout.PlaceFault.{PlaceFault}

-- the answer where an element stands there: its place, or, where it isn't one of those that there are, the offset where it would begin
abbrev pub placed : Found → Result Place PlaceFault
placed f = if f.within then Ok record { offset = f.offset; length = f.length } else Err record { offset = f.offset }

-- the element of a reference in a record whose tables have these counts
abbrev pub element_under : List ℕ → Forest Resolved → Ref → Option Found
element_under counts tree r = place_of (times counts) r.node tree 0 0 r.subscripts.items

-- the answer where the element of a reference stands under these counts
abbrev pub placed_under : List ℕ → Forest Resolved → Ref → Option (Result Place PlaceFault)
placed_under counts tree r = option_map placed (element_under counts tree r)
