-- The bytes of a record: all of its storage, or its current part.
use Rattle.std.specs.Prelude.{◌≡◌, ◌⊎◌, ℕ, List, length, take, Ok}
use Rattle.cob_copybook_tree.specs.Forests.{Forest}
use Rattle.cob_copybook_tree.specs.Nodes.{Resolved}
use Rattle.cob_copybook_tree.specs.Lengths.{greatest_number, sum_of}
use Rattle.cob_layout_places.specs.Lengths.{times}
use Rattle.cob_layout.specs.Counting.{CountsOf}

-- how many bytes a record has at most
abbrev pub greatest_length : Forest Resolved → ℕ
greatest_length tree = sum_of greatest_number tree

-- how many bytes a record has under counts
abbrev pub current_length : List ℕ → Forest Resolved → ℕ
current_length counts tree = sum_of (times counts) tree

-- the bytes are a record by themselves: their own counts are valid, and they are as many as these counts give
abbrev pub IsCurrent : Forest Resolved → List ℕ → Type 0
IsCurrent tree bytes = (counts : List ℕ) × CountsOf tree bytes (Ok counts) × (length bytes ≡ current_length counts tree)

-- the bytes hold a record: as many as it has at most, or just those that its own counts give
abbrev pub IsStorage : Forest Resolved → List ℕ → Type 0
IsStorage tree bytes = (length bytes ≡ greatest_length tree) ⊎ IsCurrent tree bytes

-- the current part of a storage: its front, as long as its own counts give
abbrev pub IsCurrentPart : Forest Resolved → List ℕ → List ℕ → Type 0
IsCurrentPart tree storage part = (counts : List ℕ) × CountsOf tree storage (Ok counts) × (part ≡ take (current_length counts tree) storage)
