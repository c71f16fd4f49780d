-- Moves of bytes, and the bytes that don't keep their description.
use Rattle.std.specs.Prelude.{◌≡◌, ◌<◌, ℕ, Bool, false, ◌||◌, List, Option, Some, None, IsTrue, IsSomeAnd, get_or, map, take}
use Rattle.std.specs.List.{slice_get}
use Rattle.cob_copybook_entry.specs.Described.{PlainValue, plain_value}
use Rattle.cob_copybook_tree.specs.Forests.{Tree}
use Rattle.cob_copybook_tree.specs.Nodes.{Resolved, is_group_kind, node}
use Rattle.cob_back_losses.specs.declared.keeping.Gets.{Gets}
use Rattle.cob_back_losses.specs.declared.keeping.Gets.TheVariants as gets
use Rattle.cob_back_losses.specs.declared.keeping.Unkept.{Unkept}
use Rattle.cob_back_losses.specs.declared.keeping.JudgedSent as code
use Rattle.cob_back_losses.specs.declared.keeping.JudgedSent.TheVariants as code_sent
use Rattle.cob_back_losses.specs.declared.bytes.ItemByte as code_bytes
use Rattle.cob_back_losses.specs.Bytes.{ItemByte, element_bytes, item_byte}
use Rattle.cob_back_losses.specs.Senses.{Sense, Text, Digit, Part, Fill, KeepsSense, constant_sense, item_sense}

-- what is sent: an element of an entry with those beneath it, or a literal or figurative constant
pub data SentElement : Type 0 where
  Element : Tree Resolved → SentElement
  Constant : PlainValue → SentElement

-- what the code's value stands for
abbrev pub sent_element : code.JudgedSent → SentElement
sent_element (code_sent.Entry entry) = Element (node entry.now)
sent_element (code_sent.Constant value) = Constant (plain_value value.now)

-- The move copies bytes, whatever they are: a group is on either side.
abbrev pub moves_bytes : SentElement → Tree Resolved → Bool
moves_bytes (Element t) to = is_group_kind t.top.kind || is_group_kind to.top.kind
moves_bytes (Constant c) to = is_group_kind to.top.kind

-- what a byte is described as; a space where there is none
abbrev pub byte_sense : Option ItemByte → Sense
byte_sense (Some b) = item_sense b.item b.at
byte_sense None = Fill

-- what the byte at this place that is sent is described as
abbrev pub sent_sense : SentElement → ℕ → Sense
sent_sense (Element t) at = byte_sense (slice_get (element_bytes t) at)
sent_sense (Constant c) at = constant_sense c at

-- The byte at this place of these, which receive, keeps its description: it is covered, or it is described as what it gets.
abbrev pub KeepsByte : SentElement → List ItemByte → (ℕ → Type 0) → ℕ → Type 0
KeepsByte from bytes Covered at = (byte : ItemByte) → slice_get bytes at ≡ Some byte → (Covered at → ⊥) → KeepsSense (sent_sense from at) (item_sense byte.item byte.at)

-- it doesn't: nothing covers it, and it is not described as what it gets
pub record IsUnkept (from : SentElement) (bytes : List ItemByte) (Covered : ℕ → Type 0) (at : ℕ) : Type 0 where
  pub byte : ItemByte
  pub there : slice_get bytes at ≡ Some byte
  pub bare : Covered at → ⊥
  pub unkept : KeepsSense (sent_sense from at) (item_sense byte.item byte.at) → ⊥

-- The move keeps the description of its receiver: it copies no bytes, or each byte keeps it. Else it may lose it.
abbrev pub KeepsDescription : SentElement → Tree Resolved → (ℕ → Type 0) → Type 0
KeepsDescription from to Covered = IsTrue (moves_bytes from to) → (at : ℕ) → KeepsByte from (element_bytes to) Covered at

-- what a byte gets that an item sends, or a space behind the sender's end
abbrev pub gets_byte : Option ItemByte → Gets
gets_byte (Some b) = gets.Item b.number
gets_byte None = gets.Space

-- what a byte gets that is described so in a constant
abbrev pub gets_character : Sense → Gets
gets_character Fill = gets.Space
gets_character Text = gets.Character
gets_character Digit = gets.Character
gets_character (Part i at) = gets.Character

-- what the byte at this place gets
abbrev pub gets_of : SentElement → ℕ → Gets
gets_of (Element t) at = gets_byte (slice_get (element_bytes t) at)
gets_of (Constant c) at = gets_character (constant_sense c at)

-- This is the first byte of these that doesn't keep its description: the item that has it, and what it gets.
pub record IsFirstUnkept (from : SentElement) (bytes : List ItemByte) (Covered : ℕ → Type 0) (u : Unkept) : Type 0 where
  pub unkept : IsUnkept from bytes Covered u.at
  pub first : (at : ℕ) → at < u.at → KeepsByte from bytes Covered at
  pub item : IsSomeAnd (slice_get bytes u.at) (λ b. b.number ≡ u.item)
  pub gets : u.gets ≡ gets_of from u.at

-- the answer is the first byte of these that doesn't keep its description, or that each keeps it
abbrev pub TellsAmong : SentElement → List ItemByte → (ℕ → Type 0) → Option Unkept → Type 0
TellsAmong from bytes Covered (Some u) = IsFirstUnkept from bytes Covered u
TellsAmong from bytes Covered None = (at : ℕ) → KeepsByte from bytes Covered at

-- The answer is the first byte by which a move of bytes loses its description, or that the move keeps it.
abbrev pub TellsFirstUnkept : SentElement → Tree Resolved → (ℕ → Type 0) → Option Unkept → Type 0
TellsFirstUnkept from to Covered (Some u) = IsTrue (moves_bytes from to) × IsFirstUnkept from (element_bytes to) Covered u
TellsFirstUnkept from to Covered None = KeepsDescription from to Covered

-- these are the bytes of the entry that is sent, up to so many; a constant has none
abbrev pub HoldsSent : SentElement → List code_bytes.ItemByte → ℕ → Type 0
HoldsSent (Element t) bytes limit = map item_byte bytes ≡ take limit (element_bytes t)
HoldsSent (Constant c) bytes limit = Unit {0}

-- the byte at this place is marked
abbrev pub IsMarked : List Bool → ℕ → Type 0
IsMarked marks at = IsTrue (get_or marks at false)

-- nothing covers the byte at this place
abbrev pub Nothing : ℕ → Type 0
Nothing at = ⊥
