-- Code page 037: the characters of ASCII that have a byte, and which.
use Rattle.std.specs.Prelude.{◌≡◌, ℕ, List, [], ◌∷◌, ◌++◌, ◌⊎◌, length, slice_index, EachIndex}
use Rattle.std.specs.List.{zip, range_with_len}
use lib.Chars.{codes}

-- The pairs of a character and its byte, by the rows of the published table: digits, capital letters, small letters, and signs.
abbrev pub table : List (ℕ × ℕ)
table =
    zip (codes "0123456789") (range_with_len 0xF0 10)
    ++ zip (codes "ABCDEFGHI") (range_with_len 0xC1 9)
    ++ zip (codes "JKLMNOPQR") (range_with_len 0xD1 9)
    ++ zip (codes "STUVWXYZ") (range_with_len 0xE2 8)
    ++ zip (codes "abcdefghi") (range_with_len 0x81 9)
    ++ zip (codes "jklmnopqr") (range_with_len 0x91 9)
    ++ zip (codes "stuvwxyz") (range_with_len 0xA2 8)
    ++ zip (codes " !\"#$%&'") (0x40 ∷ 0x5A ∷ 0x7F ∷ 0x7B ∷ 0x5B ∷ 0x6C ∷ 0x50 ∷ 0x7D ∷ [])
    ++ zip (codes "()*+,-./") (0x4D ∷ 0x5D ∷ 0x5C ∷ 0x4E ∷ 0x6B ∷ 0x60 ∷ 0x4B ∷ 0x61 ∷ [])
    ++ zip (codes ":;<=>?@") (0x7A ∷ 0x5E ∷ 0x4C ∷ 0x7E ∷ 0x6E ∷ 0x6F ∷ 0x7C ∷ [])
    ++ zip (codes "[\\]^_") (0xBA ∷ 0xE0 ∷ 0xBB ∷ 0xB0 ∷ 0x6D ∷ [])
    ++ zip (codes "`{|}~") (0x79 ∷ 0xC0 ∷ 0x4F ∷ 0xD0 ∷ 0xA1 ∷ [])

-- A pair stands in a list of pairs.
abbrev pub IsPairOf : List (ℕ × ℕ) → ℕ → ℕ → Type 0
IsPairOf [] character byte = ⊥
IsPairOf (pair ∷ pairs) character byte = ((character ≡ pair.0) × (byte ≡ pair.1)) ⊎ IsPairOf pairs character byte

-- The character has this byte in code page 037.
pub record IsCoded (character byte : ℕ) : Type 0 where
  pub in_table : IsPairOf table character byte

-- The character has a byte.
abbrev pub HasCode : ℕ → Type 0
HasCode character = (byte : ℕ) × IsCoded character byte

-- Each character has a byte.
abbrev pub HaveCodes : List ℕ → Type 0
HaveCodes characters = EachIndex characters (λ k. HasCode (slice_index characters k))

-- The bytes are as many as the characters, each that of the character at its place.
pub record AreCoded (characters bytes : List ℕ) : Type 0 where
  pub one_length : length bytes ≡ length characters
  pub each : EachIndex characters (λ k. IsCoded (slice_index characters k) (slice_index bytes k))

-- No character has two bytes, and no byte is that of two characters.
abbrev pub TableIsOneToOne : Type 0
TableIsOneToOne =
    ((character a b : ℕ) → IsCoded character a → IsCoded character b → a ≡ b)
    × ((a b byte : ℕ) → IsCoded a byte → IsCoded b byte → a ≡ b)
