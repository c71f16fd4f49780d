-- Plain copies: moves whose receiver gets the sender's bytes as they are.
use Rattle.std.specs.Prelude.{ℕ, Bool, true, false, ◌&&◌, not, List, length, Some}
use Rattle.cob_codec.specs.declared.reading.Reading.{Reading}
use Rattle.cob_picture.specs.declared.category.Category.{Category}
use Rattle.cob_picture.specs.declared.category.Category.TheVariants.{Alphabetic, Numeric, Alphanumeric, AlphanumericEdited, NumericEdited}
use Rattle.cob_copybook_tree.specs.declared.node.Kind.{Kind}
use Rattle.cob_copybook_tree.specs.declared.node.Kind.TheVariants.{Group, Item as ItemKind}
use Rattle.cob_copybook_tree.specs.declared.node.Item.{Item}
use Rattle.cob_move_receive.specs.Sent.{Entry}
use Rattle.cob_move_receive.specs.Received.{Received}

-- the categories of characters without insertions
abbrev pub is_of_characters : Category → Bool
is_of_characters Alphabetic = true
is_of_characters Alphanumeric = true
is_of_characters Numeric = false
is_of_characters AlphanumericEdited = false
is_of_characters NumericEdited = false

-- an item of characters gets another's characters from the left
abbrev pub takes_characters : Item → Item → Bool
takes_characters from to = is_of_characters from.picture.category && (is_of_characters to.picture.category && not to.justified)

-- A move is a plain copy, where both have one length: a group is on either side, or both are alphabetic or alphanumeric, and the receiver isn't
-- JUSTIFIED.
abbrev pub copies_bytes : Kind → Kind → Bool
copies_bytes Group to = true
copies_bytes (ItemKind x) Group = true
copies_bytes (ItemKind x) (ItemKind i) = takes_characters x i

-- a receiver that is as long as the sender gets the sender's bytes as they are
abbrev pub CopiesBytes : Kind → Kind → Type 0
CopiesBytes from to = (reading : Reading) (bytes : List ℕ) → Received (Entry from bytes reading) to (length bytes) (Some bytes)
