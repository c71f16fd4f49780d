-- Numbers read by any zones: as the machine takes digits out of bytes, whatever the zones of these are.
use Rattle.std.specs.Prelude.{◌≡◌, ℕ, ◌+◌, ◌/◌, ◌==◌, ◌||◌, ◌&&◌, ◌⊎◌, if◌then◌else◌, List, [], ◌∷◌, ◌++◌, length, map, replicate, slice_index, Bool, false}
use Rattle.cob_cp037.specs.Named.{minus_byte, space_byte}
use Rattle.cob_decimal.specs.Decimal.{IsDigits}
use Rattle.cob_codec.specs.Sign.{sign_place, IsSigned}
use Rattle.cob_codec.specs.Zoned.{low_digit, zone_of}
use Rattle.cob_codec.specs.Packed.{IsPacked}

-- A zone in the sign's place is a minus in a signed item where it is B or D. Every other zone is a plus, those that are no sign too.
abbrev pub is_minus_zone : Bool → ℕ → Bool
is_minus_zone signed zone = signed && (zone == 0xB || zone == 0xD)

-- The bytes of a zoned item stand for the digits with this sign, whatever their zones: each low half is a digit, and the zone in the sign's place is a
-- minus or not.
pub record IsZonedByAnyZones (count : ℕ) (signed leading : Bool) (bytes : List ℕ) (negative : Bool) (digits : List ℕ) : Type 0 where
  pub long : length bytes ≡ count
  pub low_halves : digits ≡ map low_digit bytes
  pub valid : IsDigits digits
  pub sign : IsSigned (is_minus_zone signed (zone_of (slice_index bytes (sign_place signed leading count)))) digits negative

-- The bytes of an item with a separate sign stand for the digits with this sign, whatever the zones of the digits' bytes: the sign's byte is a minus, 60,
-- or it is a plus, whatever it is.
pub record IsSeparateByAnyZones (count : ℕ) (leading : Bool) (bytes : List ℕ) (negative : Bool) (digits : List ℕ) : Type 0 where
  pub sign : ℕ
  pub text : List ℕ
  pub parts : bytes ≡ (if leading then sign ∷ text else text ++ sign ∷ [])
  pub long : length text ≡ count
  pub low_halves : digits ≡ map low_digit text
  pub valid : IsDigits digits
  pub signed : IsSigned (sign == minus_byte) digits negative

-- All of these bytes are spaces, 40, or all are 00.
abbrev pub AreFilled : List ℕ → Type 0
AreFilled bytes = (bytes ≡ replicate (length bytes) space_byte) ⊎ (bytes ≡ replicate (length bytes) 0)

-- All bytes of a packed item are spaces, or all are 00: they stand for zero.
pub record IsFilled (count : ℕ) (bytes : List ℕ) (negative : Bool) (digits : List ℕ) : Type 0 where
  pub long : length bytes ≡ count / 2 + 1
  pub filled : AreFilled bytes
  pub zeros : digits ≡ replicate count 0
  pub plus : negative ≡ false

-- The bytes of a packed item stand for the digits with this sign: they are packed, or filled with spaces or zeros. A packed item has no zones.
abbrev pub IsPackedByAnyZones : ℕ → Bool → List ℕ → Bool → List ℕ → Type 0
IsPackedByAnyZones count signed bytes negative digits = IsPacked count signed bytes negative digits ⊎ IsFilled count bytes negative digits
