-- What a move of bytes that keeps its description does to numbers.
use Rattle.std.specs.Prelude.{◌≡◌, ◌+◌, ◌<◌, ◌≤◌, ℕ, Bool, false, List, length, Some, IsSomeAnd, IsTrue, MatchBool}
use Rattle.std.specs.List.{slice_get}
use Rattle.cob_codec.specs.declared.reading.Reading.{Reading}
use Rattle.cob_cp037.specs.Named.{zero_byte}
use Rattle.cob_picture.specs.Counts.{digits, size}
use Rattle.cob_copybook_tree.specs.declared.node.Item.{Item}
use Rattle.cob_copybook_tree.specs.Forests.{Tree}
use Rattle.cob_copybook_tree.specs.Nodes.{Resolved}
use Rattle.cob_copybook_tree.specs.Items.{IsNumberItem, Represents}
use Rattle.cob_copybook_tree.specs.Lengths.{item_size}
use Rattle.cob_layout_places.specs.Counts.{bytes_at}
use Rattle.cob_move_receive.specs.Received.{Received}
use Rattle.cob_move_receive.specs.Sent.{Entry}
use Rattle.cob_back_losses.specs.Bytes.{ItemByte, element_bytes}
use Rattle.cob_back_losses.specs.Keeping.{Element, KeepsDescription, moves_bytes}
use Rattle.cob_back_losses.specs.Senses.{is_plain_digits}

-- the item stands from this byte of these on, from its first byte to its last
pub record StandsFrom (items : List ItemByte) (from number : ℕ) (i : Item) : Type 0 where
  pub some : 0 < item_size i
  pub bytes : (k : ℕ) → k < item_size i → slice_get items (from + k) ≡ Some (record { number = number; item = i; at = k })

-- the bytes represent a number of the item
abbrev pub RepresentsSome : Item → List ℕ → Type 0
RepresentsSome i part = (negative : Bool) × (ds : List ℕ) × Represents i part negative ds

-- the bytes of the item that stands from there on
abbrev pub bytes_of_item_at : Item → ℕ → List ℕ → List ℕ
bytes_of_item_at i from bytes = bytes_at from (item_size i) bytes

-- the character of a digit
abbrev pub IsDigitByte : ℕ → Type 0
IsDigitByte byte = (zero_byte ≤ byte) × (byte < zero_byte + 10)

-- each byte of the item that stands from there on is the character of a digit
abbrev pub AreDigitBytes : Item → ℕ → List ℕ → Type 0
AreDigitBytes i from bytes = (k : ℕ) → k < item_size i → IsSomeAnd (slice_get bytes (from + k)) IsDigitByte

-- The item holds a number: plain digits are their characters, as they are written, and no other zone in the last one, which would be read as a plus; another
-- number is one that the bytes represent.
abbrev pub HoldsReadableNumber : Item → ℕ → List ℕ → Type 0
HoldsReadableNumber i from bytes = MatchBool (is_plain_digits i) (AreDigitBytes i from bytes) (RepresentsSome i (bytes_of_item_at i from bytes))

-- each item of these that is a number holds one
abbrev pub HoldNumbers : List ItemByte → List ℕ → Type 0
HoldNumbers items bytes = (from number : ℕ) (i : Item) → StandsFrom items from number i → IsNumberItem i → HoldsReadableNumber i from bytes

-- The item that gets these bytes represents a number. It has the bytes that were sent there: plain digits are the same digits, and a number that is stored in
-- another way is one of the sender, of the same description.
pub record IsKeptNumber (items : List ItemByte) (bytes got : List ℕ) (from : ℕ) (i : Item) : Type 0 where
  pub represents : RepresentsSome i (bytes_of_item_at i from got)
  pub holds : HoldsReadableNumber i from got
  pub same : bytes_of_item_at i from got ≡ bytes_of_item_at i from bytes
  pub described : is_plain_digits i ≡ false → (other : ℕ) × StandsFrom items from other i

-- the receiver gets the sender's bytes, from the left on, as far as both go
pub record GetsBytes (bytes got : List ℕ) (room : ℕ) : Type 0 where
  pub long : length got ≡ room
  pub same : (at : ℕ) → at < length bytes → at < room → slice_get got at ≡ slice_get bytes at

-- The rule of MOVE gives a receiver just that where a group is on either side.
abbrev pub ReceivesBytes : Type 0
ReceivesBytes = (t to : Tree Resolved) (reading : Reading) (bytes got : List ℕ) (room : ℕ) → IsTrue (moves_bytes (Element t) to)
    → Received (Entry t.top.kind bytes reading) to.top.kind room (Some got) → GetsBytes bytes got room

-- Where a move of bytes keeps its description, and each item of the sender that is a number holds one, so does each of the receiver that nothing covers. Its
-- picture has a byte for each digit, as each picture of a number has.
abbrev pub KeepsNumbers : Type 0
KeepsNumbers = (t to : Tree Resolved) (covered : ℕ → Bool) (bytes got : List ℕ) → IsTrue (moves_bytes (Element t) to) → KeepsDescription (Element t) to (λ at. IsTrue (covered at))
    → length bytes ≡ length (element_bytes t) → HoldNumbers (element_bytes t) bytes → GetsBytes bytes got (length (element_bytes to))
    → (from number : ℕ) (i : Item) → StandsFrom (element_bytes to) from number i → IsNumberItem i → digits i.picture.positions ≡ size i.picture.positions
    → ((k : ℕ) → k < item_size i → IsTrue (covered (from + k)) → ⊥) → IsKeptNumber (element_bytes t) bytes got from i
