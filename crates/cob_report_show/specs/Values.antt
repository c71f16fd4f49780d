-- How values are shown.
use Rattle.std.specs.Prelude.{◌≡◌, ℕ, Bool, true, false, ◌==◌, ◌||◌, ◌⊎◌, List, [], ◌∷◌, ◌++◌}
use Rattle.cob_records.specs.Hex.{byte_text}
use Rattle.cob_copybook_tree.specs.declared.node.Item.{Item}
use Rattle.cob_cp037.specs.Table.{IsCoded}
use Rattle.cob_decimal.specs.Decimal.{number_of}
use Rattle.cob_decimal.specs.Literals.{IsNumberText}
use Rattle.cob_copybook_tree.specs.Items.{IsNumberItem, Represents}
use Rattle.cob_picture.specs.Counts.{scale}
use Rattle.cob_report_show.specs.declared.values.Notation.{Notation}
use Rattle.cob_report_show.specs.declared.values.Notation.TheVariants.{Characters, Digits}

-- the text is that of the number that the bytes of the item represent, at the scale of its picture
abbrev pub IsNumberShown : Item → List ℕ → List ℕ → Type 0
IsNumberShown i bytes text = (negative : Bool) × (digits : List ℕ) × Represents i bytes negative digits
    × IsNumberText negative (number_of digits) (scale i.picture.positions) text

-- a backslash, an x, and the two hexadecimal digits of a byte
abbrev pub escaped : ℕ → List ℕ
escaped byte = 92 ∷ 120 ∷ byte_text byte

-- the byte is that of a quotation mark or of a backslash, which are shown by their digits
abbrev pub is_escaped : ℕ → Bool
is_escaped byte = byte == 127 || byte == 224

-- the bytes represent no number of the item
abbrev pub IsNoNumber : Item → List ℕ → Type 0
IsNoNumber i bytes = (negative : Bool) (digits : List ℕ) → Represents i bytes negative digits → ⊥

-- a byte among characters: its character, or where it has none, or is one of the two that are escaped, its digits
abbrev pub IsByteShown : ℕ → List ℕ → Type 0
IsByteShown byte text =
    ((character : ℕ) × IsCoded character byte × (is_escaped byte ≡ false) × (text ≡ character ∷ []))
    ⊎ (((character : ℕ) → IsCoded character byte → is_escaped byte ≡ true) × (text ≡ escaped byte))

-- how a byte is written: among characters, or by its digits
abbrev pub IsBytePiece : Notation → ℕ → List ℕ → Type 0
IsBytePiece Characters byte text = IsByteShown byte text
IsBytePiece Digits byte text = text ≡ byte_text byte

-- bytes so written, one behind another
abbrev pub ArePieces : Notation → List ℕ → List ℕ → Type 0
ArePieces notation [] text = text ≡ []
ArePieces notation (byte ∷ bytes) text =
    (first : List ℕ) × (rest : List ℕ) × IsBytePiece notation byte first × ArePieces notation bytes rest × (text ≡ first ++ rest)

-- bytes as characters, in quotation marks
abbrev pub AreQuoted : List ℕ → List ℕ → Type 0
AreQuoted bytes text = (inner : List ℕ) × ArePieces Characters bytes inner × (text ≡ 34 ∷ (inner ++ 34 ∷ []))

-- bytes that represent no number: a question mark and their digits
abbrev pub AreUnknown : List ℕ → List ℕ → Type 0
AreUnknown bytes text = (inner : List ℕ) × ArePieces Digits bytes inner × (text ≡ 63 ∷ inner)

-- the bytes of a number item are shown as their number, or as unknown where they represent none
abbrev pub IsNumberValue : Item → List ℕ → List ℕ → Type 0
IsNumberValue i bytes text = IsNumberShown i bytes text ⊎ (IsNoNumber i bytes × AreUnknown bytes text)

-- the bytes of an item are shown as a number where it is a number, and else as characters
abbrev pub IsValueShown : Item → List ℕ → List ℕ → Type 0
IsValueShown i bytes text =
    (IsNumberItem i × IsNumberValue i bytes text) ⊎ ((IsNumberItem i → ⊥) × AreQuoted bytes text)
