-- What items and groups hold before the first move: their VALUE, or what MOVE ZERO or MOVE SPACE leaves.
use Rattle.std.specs.Prelude.{ℕ, List, Option, Some, None, MatchBool, if◌then◌else◌}
use Rattle.cob_picture.specs.Positions.{shows_number}
use Rattle.cob_copybook_entry.specs.declared.kinds.Figurative.{Figurative}
use Rattle.cob_copybook_entry.specs.declared.kinds.Figurative.TheVariants.{Space, Zero}
use Rattle.cob_copybook_entry.specs.Described.{PlainValue, Figure}
use Rattle.cob_copybook_tree.specs.declared.node.Kind.TheVariants.{Group, Item as ItemKind}
use Rattle.cob_copybook_tree.specs.declared.node.Item.{Item}
use Rattle.cob_copybook_tree.specs.Lengths.{item_size}
use Rattle.cob_copybook_tree.specs.Resolving.{is_number}
use Rattle.cob_move_receive.specs.Sent.{Literal}
use Rattle.cob_move_receive.specs.Received.{Received}

-- the figurative constant that an item without VALUE receives: ZERO where it is numeric or numeric edited, and SPACE else
abbrev pub figurative_for : Item → Figurative
figurative_for i = if shows_number i.picture.category then Zero else Space

-- a group of so many bytes holds its VALUE as it would receive it
abbrev pub HoldsGroup : ℕ → PlainValue → List ℕ → Type 0
HoldsGroup n c bytes = Received (Literal c) Group n (Some bytes)

-- What one occurrence of an item holds: its VALUE, which a number receives, and which any other item holds as a group of its size does, with no
-- JUSTIFIED, editing or BLANK WHEN ZERO; or without VALUE the ZERO or SPACE that it receives.
abbrev pub HoldsItem : Item → Option PlainValue → List ℕ → Type 0
HoldsItem i None bytes = Received (Literal (Figure (figurative_for i))) (ItemKind i) (item_size i) (Some bytes)
HoldsItem i (Some c) bytes =
    MatchBool (is_number i) (Received (Literal c) (ItemKind i) (item_size i) (Some bytes)) (HoldsGroup (item_size i) c bytes)
