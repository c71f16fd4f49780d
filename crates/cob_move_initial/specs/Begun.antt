-- The storage of a record before the first move, cut into elements by their lengths.
use Rattle.std.specs.Prelude.{◌≡◌, ℕ, List, [], ◌++◌, length}
use Rattle.cob_copybook_tree.specs.Forests.{Forest, NoEntries, AnEntry, Tree}
use Rattle.cob_copybook_tree.specs.Nodes.{Resolved}
use Rattle.cob_copybook_tree.specs.Lengths.{greatest_number, sum_of, element_length}
use Rattle.cob_move_initial.specs.Initial.{AreParts, Unless, HoldsElement}

-- so many bytes, which are so
abbrev pub OfSize : ℕ → (List ℕ → Type 0) → List ℕ → Type 0
OfSize size IsPart bytes = (length bytes ≡ size) × IsPart bytes

-- the storage of entries side by side, as `IsInitial` says, in which each element has its greatest length
abbrev pub AreBegun : Forest Resolved → List ℕ → Type 0
AreBegun NoEntries bytes = bytes ≡ []
AreBegun (AnEntry e children more) bytes =
    (first : List ℕ) × (rest : List ℕ) × (bytes ≡ first ++ rest)
    × Unless e.redefines (AreParts (OfSize (element_length greatest_number e children) (HoldsElement e.kind e.value (sum_of greatest_number children) (AreBegun children))) (greatest_number e)) first
    × AreBegun more rest

-- all elements of an entry, as many as there are at most
abbrev pub AreElements : Resolved → Forest Resolved → List ℕ → Type 0
AreElements e children = AreParts (OfSize (element_length greatest_number e children) (HoldsElement e.kind e.value (sum_of greatest_number children) (AreBegun children))) (greatest_number e)

-- one element holds what that of an entry does, with those beneath it as they begin
abbrev pub HoldsTree : Tree Resolved → List ℕ → Type 0
HoldsTree t bytes = HoldsElement t.top.kind t.top.value (sum_of greatest_number t.beneath) (AreBegun t.beneath) bytes
