-- Windows: sixteen bytes that end with the item, and where its half bytes stand in them.
use Rattle.std.specs.Prelude.{◌≡◌, ℕ, ◌+◌, ◌-◌, ◌*◌, ◌/◌, ◌%◌, ◌==◌, ◌<◌, ◌≤◌, ℤ, pos, negsuc, ◌-ℤ◌, Bool, true, false, ◌&&◌, nat_lt, nat_le, if◌then◌else◌, replicate, List, ◌++◌, length, slice_index, drop}

-- So many bytes at the end of others.
abbrev pub last_bytes : ℕ → List ℕ → List ℕ
last_bytes size bytes = drop (length bytes - size) bytes

-- Bytes, at most sixteen, as the end of a window: behind zeros.
abbrev pub padded_window : List ℕ → List ℕ
padded_window bytes = replicate (16 - length bytes) 0 ++ bytes

-- One number in the lanes from one on and before another, and a second number in all others.
abbrev pub lane_between : (from to inside outside : ℕ) → ℕ → ℕ
lane_between from to inside outside i = if nat_le from i && nat_lt i to then inside else outside

-- Half bytes are numbered from 0, the high half of each byte before its low half. This is the byte of one, if it is a high half; else none.
abbrev pub high_lane : ℕ → ℕ
high_lane half = if half % 2 == 0 then half / 2 else 128

-- The byte of a half byte, if it is a low half; else none.
abbrev pub low_lane : ℕ → ℕ
low_lane half = if half % 2 == 0 then 128 else half / 2

-- The byte of a half byte, if it is a high half, or a low one; else none.
abbrev pub half_lane : (high : Bool) → ℕ → ℕ
half_lane true half = high_lane half
half_lane false half = low_lane half

-- So many digits stand in half bytes: the first at the start, and each of the others so far behind the one before it. This is the byte that
-- has the digit of a power of ten as its high half, or as its low half, and none where it isn't there.
abbrev pub power_pick : (high : Bool) (start apart count : ℕ) → ℤ → ℕ
power_pick high start apart count (pos q) = if nat_lt q count then half_lane high (start + apart * (count - 1 - q)) else 128
power_pick high start apart count (negsuc q) = 128

-- The lanes take, of digits that stand so, the last ones when the number is moved left by so many places: as many as are wanted.
pub record ArePowerPicks (high : Bool) (start apart count wanted : ℕ) (shift : ℤ) (lanes : List ℕ) : Type 0 where
  pub each : (j : ℕ) → j < wanted → slice_index lanes j ≡ power_pick high start apart count (pos (wanted - 1 - j) -ℤ shift)
  pub rest : (j : ℕ) → wanted ≤ j → j < 16 → slice_index lanes j ≡ 128

-- The high half of a byte, or its low half.
abbrev pub half_of_byte : (high : Bool) → ℕ → ℕ
half_of_byte true i = 2 * i
half_of_byte false i = 2 * i + 1

-- The number of the digit that stands in a half byte, the first being 0, or none.
abbrev pub digit_pick : (start apart count : ℕ) → ℕ → ℕ
digit_pick start apart count half =
    if nat_le start half && ((half - start) % apart == 0 && nat_lt ((half - start) / apart) count) then (half - start) / apart else 128

-- The lanes put the digits in their half bytes.
abbrev pub AreDigitPicks : (high : Bool) (start apart count : ℕ) → List ℕ → Type 0
AreDigitPicks high start apart count lanes = (i : ℕ) → i < 16 → slice_index lanes i ≡ digit_pick start apart count (half_of_byte high i)

-- Where in a window that ends with an item of so many digits with a separate sign the first digit stands: in front of the sign, or behind it
-- where it is leading.
abbrev pub first_lane : (leading : Bool) → ℕ → ℕ
first_lane true count = 16 - count
first_lane false count = 15 - count

-- Where the sign stands in it.
abbrev pub sign_lane : (leading : Bool) → ℕ → ℕ
sign_lane true count = 15 - count
sign_lane false count = 15

-- Which byte of the item has the first digit.
abbrev pub first_byte : (leading : Bool) → ℕ
first_byte true = 1
first_byte false = 0

-- Which byte of it has the sign.
abbrev pub own_sign_byte : (leading : Bool) → ℕ → ℕ
own_sign_byte true count = 0
own_sign_byte false count = count

-- The greatest high half of the first byte of a packed item of so many digits: a pad, or a digit.
abbrev pub pad_bound : ℕ → ℕ
pad_bound count = if count % 2 == 0 then 0 else 9
