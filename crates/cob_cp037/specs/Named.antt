-- The bytes of the characters that the rules of COBOL name, in code page 037.
use Rattle.std.specs.Prelude.{ℕ, ◌+◌, ◌<◌, [], ◌∷◌}
use lib.Chars.{codes}
use Rattle.cob_cp037.specs.Table.{IsCoded, AreCoded}

-- The byte of a space.
abbrev pub space_byte : ℕ
space_byte = 0x40

-- The byte of the digit 0.
abbrev pub zero_byte : ℕ
zero_byte = 0xF0

-- The byte of the digit 9.
abbrev pub nine_byte : ℕ
nine_byte = 0xF9

-- The byte of a plus sign.
abbrev pub plus_byte : ℕ
plus_byte = 0x4E

-- The byte of a minus sign, which is the hyphen too.
abbrev pub minus_byte : ℕ
minus_byte = 0x60

-- The byte of a decimal point.
abbrev pub point_byte : ℕ
point_byte = 0x4B

-- The byte of a comma.
abbrev pub comma_byte : ℕ
comma_byte = 0x6B

-- The byte of a stroke.
abbrev pub slash_byte : ℕ
slash_byte = 0x61

-- The byte of an asterisk.
abbrev pub asterisk_byte : ℕ
asterisk_byte = 0x5C

-- The byte of the currency sign `$`.
abbrev pub currency_byte : ℕ
currency_byte = 0x5B

-- The byte of a quotation mark.
abbrev pub quote_byte : ℕ
quote_byte = 0x7F

-- The byte of the letter B.
abbrev pub b_byte : ℕ
b_byte = 0xC2

-- The byte of the letter C.
abbrev pub c_byte : ℕ
c_byte = 0xC3

-- The byte of the letter D.
abbrev pub d_byte : ℕ
d_byte = 0xC4

-- The byte of the letter R.
abbrev pub r_byte : ℕ
r_byte = 0xD9

-- Each byte is that of its character in the table, and the digits have theirs in order from that of 0 on.
pub record BytesAreNamed : Type 0 where
  pub signs : AreCoded (codes " +-.,/*$\"")
      (space_byte ∷ plus_byte ∷ minus_byte ∷ point_byte ∷ comma_byte ∷ slash_byte ∷ asterisk_byte ∷ currency_byte ∷ quote_byte ∷ [])
  pub letters : AreCoded (codes "BCDR") (b_byte ∷ c_byte ∷ d_byte ∷ r_byte ∷ [])
  pub ends : AreCoded (codes "09") (zero_byte ∷ nine_byte ∷ [])
  pub digits : (digit : ℕ) → digit < 10 → IsCoded (48 + digit) (zero_byte + digit)
