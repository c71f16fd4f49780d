-- What a byte is described as.
use Rattle.std.specs.Prelude.{◌≡◌, ℕ, zero, suc, ◌%◌, ℤ, pos, negsuc, Bool, true, false, ◌&&◌, not, nat_lt, List, [], ◌∷◌, length, Option, Some, None, if◌then◌else◌, IsTrue}
use Rattle.std.specs.Char.{is_ascii_digit}
use Rattle.std.specs.List.{slice_get}
use Rattle.cob_copybook_entry.specs.declared.kinds.Figurative.{Figurative}
use Rattle.cob_copybook_entry.specs.declared.kinds.Figurative.TheVariants.{Space, Zero, HighValue, LowValue, Quote}
use Rattle.cob_copybook_entry.specs.Described.{PlainValue, Numeric as NumericLiteral, Quoted, Figure, Repeated}
use Rattle.cob_picture.specs.Counts.{scale, signed}
use Rattle.cob_picture.specs.Positions.{shows_number}
use Rattle.cob_copybook_tree.specs.declared.node.Item.{Item}
use Rattle.cob_copybook_tree.specs.Items.{storage_kind}
use Rattle.cob_copybook_tree.specs.Resolving.{is_number}
use Rattle.cob_copybook_tree.specs.Storage.{is_zoned}
use Rattle.cob_back_losses.specs.declared.senses.Sense as code
use Rattle.cob_back_losses.specs.declared.senses.Sense.TheVariants as code_sense

-- What a byte is described as: a character; a digit of a number that has a byte for each of its digits, no sign and no fraction; the byte at a place, from
-- 0, of another item that shows a number, stored or edited; or a space behind the end of what is sent.
pub data Sense : Type 0 where
  Text : Sense
  Digit : Sense
  Part : Item → ℕ → Sense
  Fill : Sense

-- what the code's value stands for
abbrev pub sense : code.Sense → Sense
sense code_sense.Text = Text
sense code_sense.Digit = Digit
sense (code_sense.Part item byte) = Part item.now byte
sense code_sense.Fill = Fill

-- no digit stands behind the point, and the last one before it is the ones
abbrev pub is_whole : ℤ → Bool
is_whole (pos zero) = true
is_whole (pos (suc n)) = false
is_whole (negsuc n) = false

-- Each byte of the item is a digit: it is a zoned number without a sign, all of whose digits stand before the point, down to the ones.
abbrev pub is_plain_digits : Item → Bool
is_plain_digits i = is_number i && (is_zoned (storage_kind i) && (not (signed i.picture.positions) && is_whole (scale i.picture.positions)))

-- what the byte at this place of an item is described as
abbrev pub item_sense : Item → ℕ → Sense
item_sense i at = if is_plain_digits i then Digit else if shows_number i.picture.category then Part i at else Text

-- what a character of a text is described as
abbrev pub character_sense : ℕ → Sense
character_sense c = if is_ascii_digit c then Digit else Text

-- what each byte of a figurative constant is described as
abbrev pub figurative_sense : Figurative → Sense
figurative_sense Zero = Digit
figurative_sense Space = Text
figurative_sense HighValue = Text
figurative_sense LowValue = Text
figurative_sense Quote = Text

-- what a character of a literal is described as, if there is one
abbrev pub sense_if : Option ℕ → Sense
sense_if (Some c) = character_sense c
sense_if None = Fill

-- what the byte at this place of a literal that is repeated is described as: a literal without characters is spaces
abbrev pub repeated_sense : List ℕ → ℕ → Sense
repeated_sense [] at = Fill
repeated_sense (c ∷ cs) at = sense_if (slice_get (c ∷ cs) (at % length (c ∷ cs)))

-- What the byte at this place of a constant that is moved to a group is described as. The digits of a number and the characters of a literal stand once,
-- a figurative constant, or ALL and a literal, again and again.
abbrev pub constant_sense : PlainValue → ℕ → Sense
constant_sense (NumericLiteral sign negative digits scale) at = if nat_lt at (length digits) then Digit else Fill
constant_sense (Quoted text) at = sense_if (slice_get text at)
constant_sense (Figure f) at = figurative_sense f
constant_sense (Repeated text) at = repeated_sense text at

-- the byte is a character as it stands
abbrev pub is_shown : Sense → Bool
is_shown Text = true
is_shown Digit = true
is_shown Fill = true
is_shown (Part i at) = false

-- the byte is a plain digit
abbrev pub is_digit_sense : Sense → Bool
is_digit_sense Digit = true
is_digit_sense Text = false
is_digit_sense Fill = false
is_digit_sense (Part i at) = false

-- A byte that is described as the second and gets the first keeps its description: a character gets any that is one, a digit gets a digit, and a byte of
-- another number the same byte of an item of the same description.
abbrev pub KeepsSense : Sense → Sense → Type 0
KeepsSense sent Text = IsTrue (is_shown sent)
KeepsSense sent Digit = IsTrue (is_digit_sense sent)
KeepsSense sent (Part i at) = sent ≡ Part i at
KeepsSense sent Fill = ⊥
