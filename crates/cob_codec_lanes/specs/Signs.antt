-- What the byte of a sign says.
use Rattle.std.specs.Prelude.{ℕ, ◌/◌, ◌%◌, ◌==◌, Bool, true, false, if◌then◌else◌, Option, Some, None}
use Rattle.cob_codec.specs.Sign.{sign_meaning}
use Rattle.cob_codec_lanes.specs.declared.signs.SignByte.{SignByte}
use Rattle.cob_codec_lanes.specs.declared.signs.SignByte.TheVariants.{Zone, LowHalf, Own}

-- What a sign's byte says where it is the whole byte: 4E is a plus, 60 a minus, and all else no sign.
abbrev pub own_meaning : ℕ → Option Bool
own_meaning byte = if byte == 0x4E then Some false else (if byte == 0x60 then Some true else None)

-- What the byte of a sign says, by where in it the sign is: plus, or, where it is true, minus.
abbrev pub byte_meaning : SignByte → Bool → ℕ → Option Bool
byte_meaning Zone signed byte = sign_meaning signed (byte / 16)
byte_meaning LowHalf signed byte = sign_meaning signed (byte % 16)
byte_meaning Own signed byte = own_meaning byte

-- Where among the tables of all bytes, which stand in turn, that begins by which such a byte is read.
abbrev pub table_start : SignByte → Bool → ℕ
table_start Zone true = 0
table_start Zone false = 256
table_start LowHalf true = 512
table_start LowHalf false = 768
table_start Own signed = 1024

-- What a number in them says: 0 is a plus, 1 a minus, and all else no sign.
abbrev pub number_meaning : ℕ → Option Bool
number_meaning n = if n == 0 then Some false else (if n == 1 then Some true else None)

-- Whether anything is said: there is a sign.
abbrev pub is_some : Option Bool → Bool
is_some None = false
is_some (Some minus) = true
