-- Packed decimal: a digit in each half byte, and the sign in the last.
use Rattle.std.specs.Prelude.{◌≡◌, ℕ, ◌+◌, ◌*◌, ◌/◌, ◌%◌, ◌<◌, replicate, List, [], ◌∷◌, ◌++◌, length, Some, Bool}
use Rattle.cob_decimal.specs.Decimal.{IsDigits}
use Rattle.cob_codec.specs.Sign.{sign_meaning, sign_code, IsSigned}

-- The half bytes of bytes, the high half of each first.
abbrev pub halves : List ℕ → List ℕ
halves [] = []
halves (byte ∷ bytes) = byte / 16 ∷ byte % 16 ∷ halves bytes

-- The bytes of pairs of half bytes.
abbrev pub bytes_of_halves : List ℕ → List ℕ
bytes_of_halves [] = []
bytes_of_halves (high ∷ []) = []
bytes_of_halves (high ∷ low ∷ rest) = (high * 16 + low) ∷ bytes_of_halves rest

-- How many half bytes stand before the digits: one where their number is even.
abbrev pub pad_count : ℕ → ℕ
pad_count count = (count + 1) % 2

-- The half bytes of an item: a 0 where the number of digits is even, the digits, and the sign's code.
abbrev pub packed_halves : ℕ → List ℕ → ℕ → List ℕ
packed_halves count digits code = replicate (pad_count count) 0 ++ (digits ++ code ∷ [])

-- The bytes are packed and stand for the digits with this sign.
pub record IsPacked (count : ℕ) (signed : Bool) (bytes : List ℕ) (negative : Bool) (digits : List ℕ) : Type 0 where
  pub count_is : length digits ≡ count
  pub valid : IsDigits digits
  pub code : ℕ
  pub text : halves bytes ≡ packed_halves count digits code
  pub minus : Bool
  pub meaning : sign_meaning signed code ≡ Some minus
  pub sign : IsSigned minus digits negative

-- The last byte, with a digit and the sign's code, ends the digits before it to a number of these digits with this sign.
pub record IsEnded (signed : Bool) (front : List ℕ) (last : ℕ) (negative : Bool) (digits : List ℕ) : Type 0 where
  pub digits_are : digits ≡ front ++ last / 16 ∷ []
  pub digit : last / 16 < 10
  pub minus : Bool
  pub meaning : sign_meaning signed (last % 16) ≡ Some minus
  pub sign : IsSigned minus digits negative

-- The bytes that are written.
abbrev pub packed_form : Bool → Bool → List ℕ → List ℕ
packed_form signed negative digits = bytes_of_halves (packed_halves (length digits) digits (sign_code signed negative))
