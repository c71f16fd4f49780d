-- The characters that a sender gives, and how they stand in a receiver.
use Rattle.std.specs.Prelude.{◌≡◌, ◌⊎◌, ℕ, zero, suc, ◌+◌, ◌-◌, ℤ, pos, negsuc, Bool, true, false, List, [], ◌∷◌, ◌++◌, length, map, take, drop, replicate, MatchBool}
use Rattle.cob_decimal.specs.Parts.{zeros_of}
use Rattle.cob_picture.specs.Counts.{scale}
use Rattle.cob_picture.specs.declared.category.Category.{Category}
use Rattle.cob_picture.specs.declared.category.Category.TheVariants.{Alphabetic, Numeric, Alphanumeric, AlphanumericEdited, NumericEdited}
use Rattle.cob_picture.specs.declared.position.Position.{Position}
use Rattle.cob_codec.specs.declared.reading.Reading.{Reading}
use Rattle.cob_cp037.specs.Table.{IsCoded, HasCode}
use Rattle.cob_cp037.specs.Named.{quote_byte, space_byte, zero_byte}
use Rattle.cob_edit.specs.Characters.{HasCharacters}
use Rattle.cob_copybook_entry.specs.declared.kinds.Figurative.{Figurative}
use Rattle.cob_copybook_entry.specs.declared.kinds.Figurative.TheVariants.{Space, Zero, HighValue, LowValue, Quote}
use Rattle.cob_copybook_entry.specs.Described.{PlainValue}
use Rattle.cob_copybook_entry.specs.Described as constant
use Rattle.cob_copybook_tree.specs.declared.node.Kind.{Kind}
use Rattle.cob_copybook_tree.specs.declared.node.Kind.TheVariants.{Group, Item as ItemKind}
use Rattle.cob_copybook_tree.specs.declared.node.Item.{Item}
use Rattle.cob_copybook_tree.specs.Resolving.{is_number}
use Rattle.cob_copybook_tree.specs.Items.{IsSentBy}
use Rattle.cob_move_receive.specs.Sent.{Sent, Entry, Literal}

-- the byte of a character: its own in code page 037, and a space for one that has none there, as no literal of a copybook has
abbrev pub IsByteOf : ℕ → ℕ → Type 0
IsByteOf character byte = IsCoded character byte ⊎ ((HasCode character → ⊥) × (byte ≡ space_byte))

-- the bytes of a text's characters, in order
abbrev pub AreBytesOf : List ℕ → List ℕ → Type 0
AreBytesOf [] bytes = bytes ≡ []
AreBytesOf (c ∷ cs) [] = ⊥
AreBytesOf (c ∷ cs) (b ∷ bs) = IsByteOf c b × AreBytesOf cs bs

-- n bytes of characters: left aligned, cut at the right, padded with spaces
abbrev pub padded : ℕ → List ℕ → List ℕ
padded n bytes = take n (bytes ++ replicate n space_byte)

-- bytes so many times, one behind another
abbrev pub repeated : ℕ → List ℕ → List ℕ
repeated zero bytes = []
repeated (suc n) bytes = bytes ++ repeated n bytes

-- the byte of a figurative constant
abbrev pub figurative_byte : Figurative → ℕ
figurative_byte Space = space_byte
figurative_byte Zero = zero_byte
figurative_byte HighValue = 0xFF
figurative_byte LowValue = 0x00
figurative_byte Quote = quote_byte

-- the bytes of digits as characters
abbrev pub numerals : List ℕ → List ℕ
numerals ds = map (λ d. d + zero_byte) ds

-- the digits of a number as characters, without its sign, with a zero for each P at the right
abbrev pub numerals_to_point : List ℕ → ℤ → List ℕ
numerals_to_point ds scale = numerals ds ++ replicate (zeros_of scale) zero_byte

-- the item's bytes, read so, represent a number, and these are its digits
abbrev pub GivesDigits : Reading → Item → List ℕ → List ℕ → Type 0
GivesDigits reading i bytes text =
    (negative : Bool) × (digits : List ℕ) × IsSentBy reading i bytes negative digits × (text ≡ numerals_to_point digits (scale i.picture.positions))

-- The characters of a constant for a receiver of n bytes: the digits of a number as they are written, the characters of a literal, and a
-- figurative constant, or ALL and a literal, repeated to the receiver's size.
abbrev pub GivesConstant : PlainValue → ℕ → List ℕ → Type 0
GivesConstant (constant.Numeric sign negative digits scale) n text = text ≡ numerals digits
GivesConstant (constant.Quoted characters) n text = AreBytesOf characters text
GivesConstant (constant.Figure f) n text = text ≡ replicate n (figurative_byte f)
GivesConstant (constant.Repeated characters) n text = (coded : List ℕ) × AreBytesOf characters coded × (text ≡ padded n (repeated n coded))

-- a constant that is repeated to the receiver's size
abbrev pub IsRepeated : PlainValue → Type 0
IsRepeated (constant.Numeric sign negative digits scale) = ⊥
IsRepeated (constant.Quoted characters) = ⊥
IsRepeated (constant.Figure f) = Unit {0}
IsRepeated (constant.Repeated characters) = Unit {0}

-- The characters that a sender gives to a receiver of n bytes. Where a group is on either side they are the sender's bytes, and nothing is
-- interpreted; else a number gives its digits, and another item, edited or not, its bytes.
abbrev pub GivesCharacters : Sent → Kind → ℕ → List ℕ → Type 0
GivesCharacters (Literal c) to n text = GivesConstant c n text
GivesCharacters (Entry Group bytes reading) to n text = text ≡ bytes
GivesCharacters (Entry (ItemKind i) bytes reading) Group n text = text ≡ bytes
GivesCharacters (Entry (ItemKind i) bytes reading) (ItemKind r) n text =
    MatchBool (is_number i) (GivesDigits reading i bytes text) (text ≡ bytes)

-- the category of characters with insertions between them
abbrev pub has_insertions : Category → Bool
has_insertions AlphanumericEdited = true
has_insertions Alphabetic = false
has_insertions Alphanumeric = false
has_insertions Numeric = false
has_insertions NumericEdited = false

-- how characters stand in a receiver: from the left, from the right, or at the character places of a picture, between its insertions
pub data Placement : Type 0 where
  FromLeft : Placement
  FromRight : Placement
  Among : List Position → Placement

-- JUSTIFIED puts them to the right
abbrev pub placement_by : Bool → Placement
placement_by false = FromLeft
placement_by true = FromRight

-- in an item of this category
abbrev pub placement_under : Category → Item → Placement
placement_under AlphanumericEdited i = Among i.picture.positions
placement_under Alphabetic i = placement_by i.justified
placement_under Alphanumeric i = placement_by i.justified
placement_under Numeric i = placement_by i.justified
placement_under NumericEdited i = placement_by i.justified

-- in an item
abbrev pub placement_in : Item → Placement
placement_in i = placement_under i.picture.category i

-- of what a sender gives to a receiver; where a group is on either side, from the left, whatever JUSTIFIED says
abbrev pub placement : Sent → Kind → Placement
placement s Group = FromLeft
placement (Entry Group bytes reading) (ItemKind r) = FromLeft
placement (Entry (ItemKind i) bytes reading) (ItemKind r) = placement_in r
placement (Literal c) (ItemKind r) = placement_in r

-- n bytes of characters: right aligned, cut at the left, padded with spaces
abbrev pub padded_left : ℕ → List ℕ → List ℕ
padded_left n text = replicate (n - length text) space_byte ++ drop (length text - n) text

-- the n bytes of a receiver in which these characters stand so
abbrev pub Arranged : Placement → ℕ → List ℕ → List ℕ → Type 0
Arranged FromLeft n text bytes = bytes ≡ padded n text
Arranged FromRight n text bytes = bytes ≡ padded_left n text
Arranged (Among ps) n text bytes = HasCharacters ps text bytes
