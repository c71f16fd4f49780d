-- Classes of entries (ANSI X3.23-1985, Nucleus: class conditions).
use Rattle.std.specs.Prelude.{◌≡◌, ℕ, Bool, true, ◌&&◌, ◌||◌, ◌==◌, nat_le, List, MatchBool}
use Rattle.std.specs.List.{AllByRecursion}
use Rattle.cob_codec.specs.Readings.{keeping_zones}
use Rattle.cob_cp037.specs.Named.{space_byte}
use Rattle.cob_copybook_tree.specs.declared.node.Kind.TheVariants.{Group, Item as ItemKind}
use Rattle.cob_copybook_tree.specs.Resolving.{is_number}
use Rattle.cob_move_receive.specs.Sent.{Amount, Sent, Entry, Literal}
use Rattle.cob_move_receive.specs.Numbers.{GivesNumber, is_numeral}
use Rattle.cob_move_condition.specs.declared.class.Class.{Class}
use Rattle.cob_move_condition.specs.declared.class.Class.TheVariants.{Numeric, Alphabetic, AlphabeticLower, AlphabeticUpper}

-- a byte from one to another
abbrev pub is_from : ℕ → ℕ → ℕ → Bool
is_from low high b = nat_le low b && nat_le b high

-- the byte of a capital letter, in code page 037
abbrev pub is_capital : ℕ → Bool
is_capital b = is_from 0xC1 0xC9 b || (is_from 0xD1 0xD9 b || is_from 0xE2 0xE9 b)

-- the byte of a small letter
abbrev pub is_small : ℕ → Bool
is_small b = is_from 0x81 0x89 b || (is_from 0x91 0x99 b || is_from 0xA2 0xA9 b)

-- a byte that characters of the class may have: a digit; a letter or a space; a small letter or a space; a capital or a space
abbrev pub is_class_byte : Class → ℕ → Bool
is_class_byte Numeric b = is_numeral b
is_class_byte Alphabetic b = b == space_byte || (is_capital b || is_small b)
is_class_byte AlphabeticLower b = b == space_byte || is_small b
is_class_byte AlphabeticUpper b = b == space_byte || is_capital b

-- characters are of the class: each of them is
abbrev pub AreOfClass : Class → List ℕ → Type 0
AreOfClass class bytes = AllByRecursion (λ b. is_class_byte class b ≡ true) bytes

-- an operand gives a number
abbrev pub GivesSomeNumber : Sent → Type 0
GivesSomeNumber a = (v : Amount) × GivesNumber a v

-- An entry is of the class: a number is numeric where its bytes represent a value by strict zones, and all else is of a class where each of its bytes
-- is.
abbrev pub IsInClass : Class → Sent → Type 0
IsInClass class (Literal c) = ⊥
IsInClass class (Entry Group bytes reading) = AreOfClass class bytes
IsInClass Numeric (Entry (ItemKind i) bytes reading) = MatchBool (is_number i) (GivesSomeNumber (Entry (ItemKind i) bytes (keeping_zones reading))) (AreOfClass Numeric bytes)
IsInClass Alphabetic (Entry (ItemKind i) bytes reading) = AreOfClass Alphabetic bytes
IsInClass AlphabeticLower (Entry (ItemKind i) bytes reading) = AreOfClass AlphabeticLower bytes
IsInClass AlphabeticUpper (Entry (ItemKind i) bytes reading) = AreOfClass AlphabeticUpper bytes

-- a class of letters and spaces
abbrev pub IsOfLetters : Class → Type 0
IsOfLetters Numeric = ⊥
IsOfLetters Alphabetic = Unit {0}
IsOfLetters AlphabeticLower = Unit {0}
IsOfLetters AlphabeticUpper = Unit {0}
