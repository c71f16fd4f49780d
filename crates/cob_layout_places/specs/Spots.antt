-- Where the first elements of entries stand, by the numbers of the entries.
use Rattle.std.specs.Prelude.{ℕ, ◌+◌, List, [], ◌∷◌, ◌++◌}
use Rattle.cob_copybook_tree.specs.Forests.{Forest, NoEntries, AnEntry}
use Rattle.cob_copybook_tree.specs.Nodes.{Resolved}
use Rattle.cob_copybook_tree.specs.Lengths.{element_length, whole_length, own_length}
use Rattle.cob_layout_places.specs.declared.spots.Spot.{Spot}
use Rattle.cob_layout_places.specs.Places.{begins}

-- the spots of entries side by side and of those beneath them, in the order of their numbers: they stand from `at` on, and the area before them
-- began at `area`
abbrev pub spots_of : (Resolved → ℕ) → Forest Resolved → ℕ → ℕ → List Spot
spots_of c NoEntries at area = []
spots_of c (AnEntry e children more) at area =
    let start = begins e.redefines at area in
    record { offset = start; length = element_length c e children; times = c e }
    ∷ (spots_of c children start start ++ spots_of c more (at + own_length e.redefines (whole_length c e children)) start)

-- the spot of no entry
abbrev pub no_spot : Spot
no_spot = record { offset = 0; length = 0; times = 0 }
