-- The storage of a record before the first move.
use Rattle.std.specs.Prelude.{◌≡◌, ℕ, zero, suc, List, [], ◌++◌, Option, Some, None}
use Rattle.cob_copybook_entry.specs.Described.{PlainValue}
use Rattle.cob_copybook_tree.specs.declared.node.Kind.{Kind}
use Rattle.cob_copybook_tree.specs.declared.node.Kind.TheVariants.{Group, Item as ItemKind}
use Rattle.cob_copybook_tree.specs.Forests.{Forest, NoEntries, AnEntry}
use Rattle.cob_copybook_tree.specs.Nodes.{Resolved}
use Rattle.cob_copybook_tree.specs.Lengths.{greatest_number, sum_of}
use Rattle.cob_move_initial.specs.Values.{HoldsGroup, HoldsItem}

-- so many parts, one behind another, each of which is so
abbrev pub AreParts : (List ℕ → Type 0) → ℕ → List ℕ → Type 0
AreParts IsPart zero bytes = bytes ≡ []
AreParts IsPart (suc n) bytes = (first : List ℕ) × (rest : List ℕ) × (bytes ≡ first ++ rest) × IsPart first × AreParts IsPart n rest

-- nothing stands in a record of its own for a redefinition
abbrev pub Unless : Option (List ℕ) → (List ℕ → Type 0) → List ℕ → Type 0
Unless None IsPart bytes = IsPart bytes
Unless (Some name) IsPart bytes = bytes ≡ []

-- one element holds what its item does; or, of a group, its VALUE, or the entries beneath it, which have so many bytes
abbrev pub HoldsElement : Kind → Option PlainValue → ℕ → (List ℕ → Type 0) → List ℕ → Type 0
HoldsElement (ItemKind i) value size AreBeneath bytes = HoldsItem i value bytes
HoldsElement Group None size AreBeneath bytes = AreBeneath bytes
HoldsElement Group (Some c) size AreBeneath bytes = HoldsGroup size c bytes

-- The storage of entries side by side before the first move: in the record's order, for each entry that redefines nothing, as many elements as
-- there are at most.
abbrev pub IsInitial : Forest Resolved → List ℕ → Type 0
IsInitial NoEntries bytes = bytes ≡ []
IsInitial (AnEntry e children more) bytes =
    (first : List ℕ) × (rest : List ℕ) × (bytes ≡ first ++ rest)
    × Unless e.redefines (AreParts (HoldsElement e.kind e.value (sum_of greatest_number children) (IsInitial children)) (greatest_number e)) first
    × IsInitial more rest
