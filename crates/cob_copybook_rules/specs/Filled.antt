-- Items and groups: an entry has a picture, or entries beneath it.
use Rattle.std.specs.Prelude.{Option, Some, None}
use Rattle.cob_picture.specs.Positions.{PlainPicture}
use Rattle.cob_copybook_entry.specs.Described.{PlainEntry}
use Rattle.cob_copybook_tree.specs.Forests.{Forest, NoEntries, AnEntry}

-- an entry with a picture has none beneath it, an entry without one has
abbrev pub IsFilled : Option PlainPicture → Forest PlainEntry → Type 0
IsFilled None NoEntries = ⊥
IsFilled None (AnEntry e children more) = Unit {0}
IsFilled (Some p) NoEntries = Unit {0}
IsFilled (Some p) (AnEntry e children more) = ⊥

-- each entry is an item or a group
abbrev pub AreFilled : Forest PlainEntry → Type 0
AreFilled NoEntries = Unit {0}
AreFilled (AnEntry e children more) = IsFilled e.picture children × AreFilled children × AreFilled more
