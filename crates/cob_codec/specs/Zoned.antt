-- Zoned decimal: a digit in each byte's low half.
use Rattle.std.specs.Prelude.{◌≡◌, ◌≢◌, ℕ, ◌+◌, ◌*◌, ◌/◌, ◌%◌, ◌<◌, List, length, map, slice_index, slice_set, Some, Bool}
use Rattle.cob_cp037.specs.Named.{zero_byte}
use Rattle.cob_decimal.specs.Decimal.{IsDigits}
use Rattle.cob_codec.specs.Sign.{sign_meaning, sign_code, sign_place, IsSigned}

-- The zone of a byte is its high half.
abbrev pub zone_of : ℕ → ℕ
zone_of byte = byte / 16

-- The digit of a byte is its low half.
abbrev pub low_digit : ℕ → ℕ
low_digit byte = byte % 16

-- The bytes are zoned and stand for the digits with this sign: a byte for each digit; its zone is F, but in the sign's place,
-- where it is the code of the sign.
pub record IsZoned (count : ℕ) (signed leading : Bool) (bytes : List ℕ) (negative : Bool) (digits : List ℕ) : Type 0 where
  pub long : length bytes ≡ count
  pub low_halves : digits ≡ map low_digit bytes
  pub valid : IsDigits digits
  pub zones : (k : ℕ) → k < count → k ≢ sign_place signed leading count → zone_of (slice_index bytes k) ≡ 0xF
  pub minus : Bool
  pub meaning : sign_meaning signed (zone_of (slice_index bytes (sign_place signed leading count))) ≡ Some minus
  pub sign : IsSigned minus digits negative

-- Each digit in zone F, which is its character.
abbrev pub digit_bytes : List ℕ → List ℕ
digit_bytes digits = map (λ d. zero_byte + d) digits

-- The bytes that are written: each digit in zone F, but in the sign's place, where the zone is the sign's code.
abbrev pub zoned_form : Bool → Bool → Bool → List ℕ → List ℕ
zoned_form signed leading negative digits =
    let place = sign_place signed leading (length digits) in
    slice_set (digit_bytes digits) place (sign_code signed negative * 16 + slice_index digits place)
