-- References that stand where the sums of the tables say.
use Rattle.std.specs.Prelude.{◌≡◌, ◌⊎◌, ℕ, ◌+◌, ◌-◌, ◌<◌, ◌≤◌, ◌==◌, ◌&&◌, Bool, true, false, List, Some, slice_index}
use Rattle.cob_copybook_tree.specs.Forests.{Forest, entries_in}
use Rattle.cob_copybook_tree.specs.Nodes.{Resolved}
use Rattle.cob_layout_places.specs.declared.places.Found.{Found}
use Rattle.cob_layout_places.specs.declared.reference.Ref.{Ref}
use Rattle.cob_layout_places.specs.declared.spots.Spot.{Spot}
use Rattle.cob_layout_places.specs.declared.varying.Table.{Table}
use Rattle.cob_layout_places.specs.Counts.{tables_of}
use Rattle.cob_layout_places.specs.Lengths.{times}
use Rattle.cob_layout_places.specs.Needs.{number_behind}
use Rattle.cob_layout_places.specs.Spots.{spots_of}
use Rattle.cob_layout.specs.declared.footings.Footing.{Footing}
use Rattle.cob_layout.specs.declared.shifts.Shift.{Shift}
use Rattle.cob_layout.specs.declared.summed.SummedPlace.{SummedPlace}
use Rattle.cob_layout.specs.Finding.{SparesNone}
use Rattle.cob_layout.specs.Kept.{IsIn}
use Rattle.cob_layout.specs.Placed.{element_under}
use Rattle.cob_layout.specs.Shifts.{FitsSums, grow_in, shifted_spot, sums_of}
use Rattle.cob_layout.specs.Ways.{first_element, moved_once}

-- where the reference stands by these sums
abbrev pub summed_to : SummedPlace → List ℕ → Found
summed_to p sums = record {
  offset = p.offset + slice_index sums p.before;
  length = p.length + slice_index sums p.through - slice_index sums p.before;
  within = true;
}

-- each table below this number has as many elements as it has at least
abbrev pub HaveLeast : Forest Resolved → (behind : ℕ) → List ℕ → Type 0
HaveLeast tree behind c = (x : Table) → IsIn x (tables_of tree) → x.number < behind → x.least ≤ slice_index c x.number

-- A reference, which receives or not, needs the counts of all tables below a number and is spared none; and where each of these tables has as many elements
-- as it has at least, it stands where the sums say.
pub record IsSummedPlace (tree : Forest Resolved) (r : Ref) (receiving : Bool) (p : SummedPlace) : Type 0 where
  pub behind : number_behind true r.node tree ≡ p.behind
  pub spares : SparesNone p.behind (receiving && (number_behind false r.node tree == entries_in tree)) r.node
  pub before : p.before ≤ grow_in tree
  pub through : p.through ≤ grow_in tree
  pub rises : (c : List ℕ) → slice_index (sums_of tree c) p.before ≤ slice_index (sums_of tree c) p.through
  pub stands : (c : List ℕ) → HaveLeast tree p.behind c → element_under c tree r ≡ Some (summed_to p (sums_of tree c))

-- ---- how it is seen

-- none, or how many elements the one of these tables has at least that has this number, which is below that
abbrev pub IsLeastOf : List Table → (number behind least : ℕ) → Type 0
IsLeastOf tables number behind least = (least ≡ 0) ⊎ ((x : Table) × IsIn x tables × (x.number ≡ number) × (number < behind) × (least ≡ x.least))

-- an element so much further
abbrev pub displaced : ℕ → Found → Found
displaced further f = record { offset = f.offset + further; length = f.length; within = true }

-- the subscript of a table moves an element that is there so much further in every storage in which the table has so many elements at least
abbrev pub MovesBy : Shift → Spot → (least subscript further : ℕ) → Type 0
MovesBy s x least subscript further = (sums : List ℕ) (count : ℕ) (f : Found) → FitsSums sums s → f.within ≡ true → least ≤ count
    → moved_once f (shifted_spot sums count s x) subscript ≡ displaced further f

-- where each table below this number has as many elements as it has at least, the reference has the first element of its entry, so much further
abbrev pub IsMovedBy : Forest Resolved → Ref → (behind further : ℕ) → Type 0
IsMovedBy tree r behind further = (c : List ℕ) → HaveLeast tree behind c
    → element_under c tree r ≡ Some (displaced further (first_element (spots_of (times c) tree 0 0) r.node))

-- the place of a reference whose first element rests on this, where it is moved so
pub record IsSummedBy (f : Footing) (further : ℕ) (p : SummedPlace) : Type 0 where
  pub offset : p.offset ≡ f.least.offset + further
  pub length : p.length ≡ f.least.length
  pub before : p.before ≡ f.shift.before
  pub through : p.through ≡ f.shift.through
  pub behind : p.behind ≡ f.behind
