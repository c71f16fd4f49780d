-- What items and groups hold before the first move is determined.
use Rattle.std.specs.Prelude.{◌≡◌, ℕ, List, Option}
use Rattle.cob_copybook_entry.specs.Described.{PlainValue}
use Rattle.cob_copybook_tree.specs.declared.node.Item.{Item}
use Rattle.cob_move_initial.specs.Values.{HoldsGroup, HoldsItem}
use Rattle.cob_copybook_tree.specs.Forests.{Forest}
use Rattle.cob_copybook_tree.specs.Nodes.{Resolved}
use Rattle.cob_move_initial.specs.Initial.{IsInitial}

-- a group with a VALUE holds one thing
abbrev pub OneGroup : Type 0
OneGroup = (n : ℕ) (c : PlainValue) (a b : List ℕ) → HoldsGroup n c a → HoldsGroup n c b → a ≡ b

-- an item holds one thing
abbrev pub OneItem : Type 0
OneItem = (i : Item) (value : Option PlainValue) (a b : List ℕ) → HoldsItem i value a → HoldsItem i value b → a ≡ b

-- a record has one storage before the first move
abbrev pub OneInitial : Type 0
OneInitial = (f : Forest Resolved) (a b : List ℕ) → IsInitial f a → IsInitial f b → a ≡ b
