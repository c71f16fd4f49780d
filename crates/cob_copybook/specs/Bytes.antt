-- The least that records take.
use Rattle.std.specs.Prelude.{◌<◌}
use Rattle.cob_copybook_tree.specs.declared.node.Kind.{Kind}
use Rattle.cob_copybook_tree.specs.declared.node.Kind.TheVariants.{Group, Item as ItemKind}
use Rattle.cob_copybook_tree.specs.Forests.{Forest, NoEntries, AnEntry}
use Rattle.cob_copybook_tree.specs.Nodes.{Resolved}
use Rattle.cob_copybook_tree.specs.Lengths.{item_size, greatest_number, sum_of}
use Rattle.cob_copybook.specs.Books.{IsRecordDescription}

-- an item takes a byte at least
abbrev pub TakesByte : Kind → Type 0
TakesByte Group = Unit {0}
TakesByte (ItemKind i) = 0 < item_size i

-- each item of a tree takes a byte at least
abbrev pub TakeBytes : Forest Resolved → Type 0
TakeBytes NoEntries = Unit {0}
TakeBytes (AnEntry e children more) = TakesByte e.kind × TakeBytes children × TakeBytes more

-- law: each item of a record takes a byte at least, and so does the record under greatest counts
abbrev pub RecordsTakeBytes : Type 0
RecordsTakeBytes = (t : Forest Resolved) → IsRecordDescription t → TakeBytes t × (0 < sum_of greatest_number t)
