-- Storages that agree on counts, and counts that agree on what a place needs.
use Rattle.std.specs.Prelude.{◌≡◌, ℕ, List, [], ◌∷◌, length, Some, Ok, Result, slice_set, slice_index}
use Rattle.cob_copybook_tree.specs.Forests.{Forest}
use Rattle.cob_copybook_tree.specs.Nodes.{Resolved}
use Rattle.cob_layout_places.specs.declared.counts.CountFault.{CountFault}
use Rattle.cob_layout_places.specs.declared.places.Found.{Found}
use Rattle.cob_layout_places.specs.declared.varying.Table.{Table}
use Rattle.cob_layout_places.specs.Lengths.{times}
use Rattle.cob_layout_places.specs.Places.{place_of}
use Rattle.cob_layout_places.specs.Cover.{AreNumbered}
use Rattle.cob_layout_places.specs.Needs.{Has, Needs}
use Rattle.cob_layout_places.specs.Counts.{bytes_at, IsCounted, Taken}

-- the storages have the same bytes where the counts of these tables stand, as far as they are read
abbrev pub AgreeOnCounts : Forest Resolved → List ℕ → List ℕ → List Table → List ℕ → Type 0
AgreeOnCounts tree a b [] c = Unit {0}
AgreeOnCounts tree a b (x ∷ xs) c =
    ((found : Found) → place_of (times c) x.count tree 0 0 [] ≡ Some found → bytes_at found.offset found.length a ≡ bytes_at found.offset found.length b)
    × ((v : ℕ) → IsCounted tree a x c (Ok v) → AgreeOnCounts tree a b xs (slice_set c x.number v))

-- storages of one length that agree so have the same counts, or the same fault
abbrev pub SameCounts : Type 0
SameCounts = (tree : Forest Resolved) (a b : List ℕ) (xs : List Table) (c : List ℕ) (r : Result (List ℕ) CountFault) → length a ≡ length b → AgreeOnCounts tree a b xs c → Taken tree a xs c r → Taken tree b xs c r

-- counts of a record that agree on the tables that the place of an entry needs give it one place
abbrev pub OnePlace : Type 0
OnePlace = (c d : List ℕ) (f : Forest Resolved) (r : ℕ) (subscripts : List ℕ) → AreNumbered 0 f → Has r f
    → ((x : ℕ) → Has x f → Needs r x f → slice_index c x ≡ slice_index d x)
    → place_of (times c) r f 0 0 subscripts ≡ place_of (times d) r f 0 0 subscripts
