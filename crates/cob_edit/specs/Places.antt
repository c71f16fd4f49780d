-- The places of an edited item. Each holds one byte, but an assumed point, which holds none.
use Rattle.std.specs.Prelude.{ℕ, Bool, true, false, List, if◌then◌else◌, count_by}
use Rattle.cob_cp037.specs.Named.{asterisk_byte, b_byte, c_byte, currency_byte, d_byte, minus_byte, plus_byte, r_byte, space_byte}
use Rattle.cob_edit.specs.declared.place.Mark.{Mark}
use Rattle.cob_edit.specs.declared.place.Mark.TheVariants.{Currency, PlusOrMinus, SpaceOrMinus, CreditC, CreditR, DebitD, DebitB}
use Rattle.cob_edit.specs.declared.place.Fill.{Fill}
use Rattle.cob_edit.specs.declared.place.Fill.TheVariants.{Space, Asterisk}
use Rattle.cob_edit.specs.declared.place.EditedPlace.{EditedPlace}
use Rattle.cob_edit.specs.declared.place.EditedPlace.TheVariants.{Inserted, Point, Digit, Suppressed, Floating, First, Fixed, AssumedPoint}

-- The byte of a mark, in code page 037, for a value that is negative or not: `$` is itself; a plus sign gives way to a minus sign, a
-- space to a minus sign, and the letters of CR and DB to spaces where the value isn't negative.
abbrev pub mark_byte : Mark → Bool → ℕ
mark_byte Currency negative = currency_byte
mark_byte PlusOrMinus negative = if negative then minus_byte else plus_byte
mark_byte SpaceOrMinus negative = if negative then minus_byte else space_byte
mark_byte CreditC negative = if negative then c_byte else space_byte
mark_byte CreditR negative = if negative then r_byte else space_byte
mark_byte DebitD negative = if negative then d_byte else space_byte
mark_byte DebitB negative = if negative then b_byte else space_byte

-- every mark but the currency sign tells the sign
abbrev pub tells : Mark → Bool
tells Currency = false
tells PlusOrMinus = true
tells SpaceOrMinus = true
tells CreditC = true
tells CreditR = true
tells DebitD = true
tells DebitB = true

-- what stands for a suppressed zero
abbrev pub fill_byte : Fill → ℕ
fill_byte Space = space_byte
fill_byte Asterisk = asterisk_byte

-- a place that holds a digit: a 9, a Z, an asterisk, or a floating symbol but the first
abbrev pub is_digit : EditedPlace → Bool
is_digit Digit = true
is_digit (Suppressed fill) = true
is_digit Floating = true
is_digit (Inserted byte) = false
is_digit Point = false
is_digit (First mark) = false
is_digit (Fixed mark) = false
is_digit AssumedPoint = false

-- a place of the run
abbrev pub is_run : EditedPlace → Bool
is_run (Suppressed fill) = true
is_run Floating = true
is_run (First mark) = true
is_run (Inserted byte) = false
is_run Digit = false
is_run Point = false
is_run (Fixed mark) = false
is_run AssumedPoint = false

-- a place of the run, or an insertion
abbrev pub is_run_or_insertion : EditedPlace → Bool
is_run_or_insertion (Inserted byte) = true
is_run_or_insertion (Suppressed fill) = true
is_run_or_insertion Floating = true
is_run_or_insertion (First mark) = true
is_run_or_insertion Digit = false
is_run_or_insertion Point = false
is_run_or_insertion (Fixed mark) = false
is_run_or_insertion AssumedPoint = false

-- a point, printed or not
abbrev pub is_point_place : EditedPlace → Bool
is_point_place Point = true
is_point_place AssumedPoint = true
is_point_place (Inserted byte) = false
is_point_place Digit = false
is_point_place (Suppressed fill) = false
is_point_place Floating = false
is_point_place (First mark) = false
is_point_place (Fixed mark) = false

-- a place that holds a byte
abbrev pub has_byte : EditedPlace → Bool
has_byte AssumedPoint = false
has_byte Point = true
has_byte (Inserted byte) = true
has_byte Digit = true
has_byte (Suppressed fill) = true
has_byte Floating = true
has_byte (First mark) = true
has_byte (Fixed mark) = true

-- a digit that always shows
abbrev pub is_nine : EditedPlace → Bool
is_nine Digit = true
is_nine AssumedPoint = false
is_nine Point = false
is_nine (Inserted byte) = false
is_nine (Suppressed fill) = false
is_nine Floating = false
is_nine (First mark) = false
is_nine (Fixed mark) = false

-- whether leading zeros become asterisks
abbrev pub is_asterisk : Fill → Bool
is_asterisk Space = false
is_asterisk Asterisk = true

-- a digit whose leading zeros become asterisks
abbrev pub is_star : EditedPlace → Bool
is_star (Suppressed fill) = is_asterisk fill
is_star Digit = false
is_star AssumedPoint = false
is_star Point = false
is_star (Inserted byte) = false
is_star Floating = false
is_star (First mark) = false
is_star (Fixed mark) = false

-- a sign in its place
abbrev pub is_fixed_sign : EditedPlace → Bool
is_fixed_sign (Fixed mark) = tells mark
is_fixed_sign (Inserted byte) = false
is_fixed_sign Point = false
is_fixed_sign Digit = false
is_fixed_sign (Suppressed fill) = false
is_fixed_sign Floating = false
is_fixed_sign (First mark) = false
is_fixed_sign AssumedPoint = false

-- a floating sign
abbrev pub is_floating_sign : EditedPlace → Bool
is_floating_sign (First mark) = tells mark
is_floating_sign (Inserted byte) = false
is_floating_sign Point = false
is_floating_sign Digit = false
is_floating_sign (Suppressed fill) = false
is_floating_sign Floating = false
is_floating_sign (Fixed mark) = false
is_floating_sign AssumedPoint = false

-- the number of bytes
abbrev pub bytes_of : List EditedPlace → ℕ
bytes_of places = count_by has_byte places
