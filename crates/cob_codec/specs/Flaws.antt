-- Why bytes represent no number: the first part of them that isn't as its place asks.
use Rattle.std.specs.Prelude.{◌≡◌, ℕ, ◌+◌, ◌-◌, ◌/◌, ◌%◌, ◌<◌, ◌==◌, ◌&&◌, nat_le, nat_lt, if◌then◌else◌, Bool, true, false, List, length, Option, Some, None, slice_index}
use Rattle.cob_cp037.specs.Named.{minus_byte, nine_byte, plus_byte, zero_byte}
use Rattle.cob_codec.specs.Packed.{pad_count}
use Rattle.cob_codec.specs.Sign.{sign_meaning, sign_place}
use Rattle.cob_codec.specs.Zoned.{IsZoned}
use Rattle.cob_codec.specs.declared.shape.Shape.{Shape}
use Rattle.cob_codec.specs.declared.flaw.ExpectedPart.{ExpectedPart}
use Rattle.cob_codec.specs.declared.flaw.ExpectedPart.TheVariants.{Zero, Digit, Sign, Zone, DigitByte, SignByte}
use Rattle.cob_codec.specs.declared.flaw.Flaw.{Flaw}

-- it is one of the two
abbrev pub is_either : Option Bool → Bool
is_either None = false
is_either (Some minus) = true

-- a half byte, or a byte of a separate sign and its digits, is as its place asks: in an item that is signed or not
abbrev pub suits : Bool → ExpectedPart → ℕ → Bool
suits signed Zero part = part == 0
suits signed Digit part = nat_lt part 10
suits signed Sign part = is_either (sign_meaning signed part)
suits signed Zone part = part == 0xF
suits signed DigitByte part = nat_le zero_byte part && nat_le part nine_byte
suits signed SignByte part = (if part == plus_byte then true else part == minus_byte)

-- what each half byte of a packed item of so many digits has to be: 0 in front of an even number of digits, then the digits, and then the sign
abbrev pub packed_wanted : ℕ → ℕ → ExpectedPart
packed_wanted count k = if nat_lt k (pad_count count) then Zero else (if nat_lt k (pad_count count + count) then Digit else Sign)

-- what each half byte of a zoned item has to be, whose sign stands in this byte: a zone, which in the sign's place is the sign, and then a digit
abbrev pub zoned_wanted : ℕ → ℕ → ExpectedPart
zoned_wanted place k = if k % 2 == 1 then Digit else (if k / 2 == place then Sign else Zone)

-- what each byte of an item with a separate sign has to be, whose sign's byte has this number
abbrev pub separate_wanted : ℕ → ℕ → ExpectedPart
separate_wanted place k = if k == place then SignByte else DigitByte

-- what each half byte has to be of a zoned item of this shape with so many bytes
abbrev pub zoned_wanted_in : Shape → ℕ → ℕ → ExpectedPart
zoned_wanted_in shape count = zoned_wanted (sign_place shape.signed shape.leading count)

-- what each byte has to be of an item of this shape with a separate sign and so many bytes
abbrev pub separate_wanted_in : Shape → ℕ → ℕ → ExpectedPart
separate_wanted_in shape count = separate_wanted (if shape.leading then 0 else count - 1)

-- zoned bytes of this shape represent the number with this sign and these digits
abbrev pub IsZonedBy : Shape → List ℕ → Bool → List ℕ → Type 0
IsZonedBy shape bytes negative digits = IsZoned shape.digits shape.signed shape.leading bytes negative digits

-- all parts are as their places ask
abbrev pub AllSuit : Bool → (ℕ → ExpectedPart) → List ℕ → Type 0
AllSuit signed wanted parts = (k : ℕ) → k < length parts → suits signed (wanted k) (slice_index parts k) ≡ true

-- It is the first of these parts that isn't as its place asks.
pub record IsFirstFlaw (signed : Bool) (wanted : ℕ → ExpectedPart) (parts : List ℕ) (flaw : Flaw) : Type 0 where
  pub within : flaw.at < length parts
  pub found_is : flaw.found ≡ slice_index parts flaw.at
  pub wanted_is : flaw.wanted ≡ wanted flaw.at
  pub unsuited : suits signed flaw.wanted flaw.found ≡ false
  pub before : (k : ℕ) → k < flaw.at → suits signed (wanted k) (slice_index parts k) ≡ true
