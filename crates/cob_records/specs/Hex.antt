-- Bytes as text, two capital hexadecimal digits for each.
use Rattle.std.specs.Prelude.{ℕ, ◌+◌, ◌-◌, ◌/◌, ◌%◌, nat_lt, if◌then◌else◌, List, [], ◌∷◌, flat_map}

-- the character of a digit, in ASCII: 0 to 9 stand from 48 on, and A to F from 65 on
abbrev pub digit_character : ℕ → ℕ
digit_character digit = if nat_lt digit 10 then 48 + digit else 65 + (digit - 10)

-- the text of a byte: the digit of its upper four bits, and then that of its lower four
abbrev pub byte_text : ℕ → List ℕ
byte_text byte = digit_character (byte / 16) ∷ digit_character (byte % 16) ∷ []

-- the text of bytes
abbrev pub hex_text : List ℕ → List ℕ
hex_text bytes = flat_map byte_text bytes
