-- Moves that may find no number.
use Rattle.std.specs.Prelude.{Bool, false, not, IsTrue}
use Rattle.cob_picture.specs.Positions.{shows_number}
use Rattle.cob_copybook_tree.specs.declared.node.Kind.{Kind}
use Rattle.cob_copybook_tree.specs.declared.node.Kind.TheVariants.{Group, Item as ItemKind}
use Rattle.cob_copybook_tree.specs.Nodes.{kind_shows_number}

-- an entry is an item of characters
abbrev pub has_characters : Kind → Bool
has_characters Group = false
has_characters (ItemKind i) = not (shows_number i.picture.category)

-- characters are moved to a number: they may be no digits
abbrev pub MayHaveNoNumber : Kind → Kind → Type 0
MayHaveNoNumber from to = IsTrue (has_characters from) × IsTrue (kind_shows_number to)
