-- What moves back bring back.
use Rattle.std.specs.Prelude.{◌≡◌, ◌<◌, ℕ, List, length, Some, true, false}
use Rattle.cob_codec.specs.declared.reading.Reading.{Reading}
use Rattle.cob_picture.specs.declared.symbol.Symbol.{Symbol}
use Rattle.cob_picture.specs.Counts.{digits, signed}
use Rattle.cob_picture.specs.Pictures.{IsPicture}
use Rattle.cob_picture.specs.Positions.{positions, shows_number}
use Rattle.cob_edit.specs.Editing.{shows_sign}
use Rattle.cob_edit.specs.Pictured.{places}
use Rattle.cob_copybook_tree.specs.declared.node.Item.{Item}
use Rattle.cob_copybook_tree.specs.declared.node.Kind.TheVariants.{Item as ItemKind}
use Rattle.cob_copybook_tree.specs.Forests.{Forest}
use Rattle.cob_copybook_tree.specs.Nodes.{Resolved}
use Rattle.cob_copybook_tree.specs.Items.{IsStorable}
use Rattle.cob_copybook_tree.specs.Lengths.{item_size}
use Rattle.cob_copybook_tree.specs.Resolving.{is_number}
use Rattle.cob_copybook.specs.Books.{IsRecordDescription}
use Rattle.cob_layout.specs.Storage.{greatest_length}
use Rattle.cob_layout_places.specs.Counts.{kind_in}
use Rattle.cob_move_data.specs.Moves.{AreMoves, Move, Records}
use Rattle.cob_move_apply.specs.Applied.{Applied, done}
use Rattle.cob_move_receive.specs.Received.{Received}
use Rattle.cob_move_receive.specs.Sent.{Entry}
use Rattle.cob_back_moves.specs.Apart.{StandsOneWay}
use Rattle.cob_back_moves.specs.Returns.{AreTurned, HoldsAgain, Returns}
use Rattle.cob_back_moves.specs.Wider.{IsReadPictured, IsSameIn, LosesNothing}

-- what holds of each item of a record: its bytes can hold what it describes, a number has a digit, and an edited one shows a sign where it is signed
pub record IsSoundItem (i : Item) : Type 0 where
  pub storable : IsStorable i
  pub picture : (symbols : List Symbol) × IsPicture i.picture.category symbols × (i.picture.positions ≡ positions i.picture.category symbols)
  pub some : shows_number i.picture.category ≡ true → 0 < digits i.picture.positions
  pub signs : shows_number i.picture.category ≡ true → is_number i ≡ false → shows_sign (places i.picture.positions) ≡ signed i.picture.positions

-- law: each item of a record is so
abbrev pub ItemsAreSound : Type 0
ItemsAreSound = (tree : Forest Resolved) (r : ℕ) (i : Item) → IsRecordDescription tree → kind_in r tree ≡ Some (ItemKind i) → IsSoundItem i

-- law: what an item receives has its size
abbrev pub ItemsFill : Type 0
ItemsFill = (i j : Item) (reading : Reading) (a b : List ℕ) → IsSoundItem j → Received (Entry (ItemKind i) a reading) (ItemKind j) (item_size j) (Some b)
    → length b ≡ item_size j

-- law: what an item holds, moved to one that loses nothing of it, comes back as it was
abbrev pub ItemsReturn : Type 0
ItemsReturn = (i j : Item) (there back : Reading) (a b : List ℕ) → IsSoundItem i → IsSoundItem j → LosesNothing i j → length a ≡ item_size i
    → IsReadPictured there i → IsReadPictured back j → Received (Entry (ItemKind i) a there) (ItemKind j) (item_size j) (Some b)
    → (c : List ℕ) × Received (Entry (ItemKind j) b back) (ItemKind i) (item_size i) (Some c) × IsSameIn i a c

-- Law: what moves back make of what moves there made of a record, where they bring it back: they don't stop, and each named item holds again what it
-- held, whatever the bytes that they begin with. Both leave a storage of the greatest length.
abbrev pub ReturnsKeep : Type 0
ReturnsKeep = (r s : Records) (there back : List Move) (input before after start : List ℕ)
    → IsRecordDescription r.input → IsRecordDescription r.output → IsRecordDescription s.input → IsRecordDescription s.output
    → AreTurned r s → StandsOneWay r.input → StandsOneWay r.output → StandsOneWay s.input → StandsOneWay s.output
    → AreMoves r there → AreMoves s back → Returns r.input there back
    → length input ≡ greatest_length r.input → length before ≡ greatest_length r.output → length start ≡ greatest_length s.output
    → Applied r there input before (done after)
    → (length after ≡ greatest_length r.output)
    × ((last : List ℕ) × Applied s back after start (done last) × (length last ≡ greatest_length s.output) × HoldsAgain r.input input last)
