-- Binary: the number itself, the highest byte first.
use Rattle.std.specs.Prelude.{◌≡◌, ℕ, ◌-◌, ◌^◌, ◌<◌, nat_le, if◌then◌else◌, ℤ, pos, neg_ℤ, List, length, Bool, true, false, IsTrue}
use Rattle.cob_decimal.specs.Decimal.{IsDigits, number_of}
use Rattle.byteorder.specs.Endian.{big_number, big_bytes, twos_complement}

-- The bytes of an item: 2 for up to 4 digits, 4 for up to 9, and 8 for up to 18.
abbrev pub binary_length : ℕ → ℕ
binary_length count = if nat_le count 4 then 2 else (if nat_le count 9 then 4 else 8)

-- The number of bytes: two's complement in a signed item, else as it stands.
abbrev pub binary_number : Bool → List ℕ → ℤ
binary_number signed bytes =
    if signed then twos_complement (length bytes) (big_number (length bytes) bytes)
    else pos (big_number (length bytes) bytes)

-- A magnitude with its sign.
abbrev pub signed_number : Bool → ℕ → ℤ
signed_number true magnitude = neg_ℤ (pos magnitude)
signed_number false magnitude = pos magnitude

-- The bytes stand for the digits with this sign: as many digits as the item's picture has, so that no number past them is
-- represented.
pub record IsBinary (count : ℕ) (signed : Bool) (bytes : List ℕ) (negative : Bool) (digits : List ℕ) : Type 0 where
  pub long : length bytes ≡ binary_length count
  pub count_is : length digits ≡ count
  pub valid : IsDigits digits
  pub nonzero : IsTrue negative → 0 < number_of digits
  pub value : signed_number negative (number_of digits) ≡ binary_number signed bytes

-- The bytes that are written: the number, or its two's complement.
abbrev pub binary_form : ℕ → Bool → List ℕ → List ℕ
binary_form count negative digits =
    big_bytes (binary_length count)
    (if negative then 256 ^ binary_length count - number_of digits else number_of digits)

-- How many digits the greatest number of a binary item has: 5, 10 or 20 for its 2, 4 or 8 bytes.
abbrev pub whole_digits : ℕ → ℕ
whole_digits count = if nat_le count 4 then 5 else (if nat_le count 9 then 10 else 20)

-- The number of the bytes, whether the picture's digits hold it or not: 5, 10 or 20 digits, negative where it is below zero.
pub record IsWholeBinary (count : ℕ) (signed : Bool) (bytes : List ℕ) (negative : Bool) (digits : List ℕ) : Type 0 where
  pub count_is : length digits ≡ whole_digits count
  pub valid : IsDigits digits
  pub nonzero : IsTrue negative → 0 < number_of digits
  pub value : signed_number negative (number_of digits) ≡ binary_number signed bytes
