-- Values that are read by any zones, where strict zones give none.
use Rattle.std.specs.Prelude.{◌≡◌, ◌↔◌, Bool, true, ℕ, List}
use Rattle.cob_codec.specs.declared.reading.Reading.{Reading}
use Rattle.cob_codec.specs.Readings.{keeping_zones}
use Rattle.cob_copybook_tree.specs.declared.node.Item.{Item}
use Rattle.cob_copybook_tree.specs.declared.node.Kind.{Kind}
use Rattle.cob_copybook_tree.specs.declared.node.Kind.TheVariants.{Group, Item as ItemKind}
use Rattle.cob_copybook_tree.specs.Items.{IsSentBy}
use Rattle.cob_copybook_tree.specs.Resolving.{is_number}
use Rattle.cob_move_receive.specs.Sent.{Entry, Literal, Sent}

-- the bytes of an item represent a number by this reading
abbrev pub GivesBy : Reading → Item → List ℕ → Type 0
GivesBy reading i bytes = (negative : Bool) × (ds : List ℕ) × IsSentBy reading i bytes negative ds

-- an item is a number, and its bytes represent one by this reading, but none where zones are read strictly
abbrev pub IsReadAnyhow : Reading → Item → List ℕ → Type 0
IsReadAnyhow reading i bytes = (is_number i ≡ true) × GivesBy reading i bytes × (GivesBy (keeping_zones reading) i bytes → ⊥)

-- a sender gives a number by the reading in use, and none where zones are read strictly
abbrev pub GivesAnyhow : Sent → Type 0
GivesAnyhow (Entry Group bytes reading) = ⊥
GivesAnyhow (Entry (ItemKind i) bytes reading) = IsReadAnyhow reading i bytes
GivesAnyhow (Literal c) = ⊥

-- a receiver of this kind takes such a number; a group takes bytes as they are
abbrev pub TakesAnyhow : Kind → Sent → Type 0
TakesAnyhow Group s = ⊥
TakesAnyhow (ItemKind i) s = GivesAnyhow s

-- a mark stands exactly where such a number is taken
abbrev pub IsMark : Kind → Sent → Bool → Type 0
IsMark to s mark = (mark ≡ true) ↔ TakesAnyhow to s
