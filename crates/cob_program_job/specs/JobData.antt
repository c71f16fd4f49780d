-- The data of a job: lines of hexadecimal digits and spaces, two digits for each byte.
use Rattle.std.specs.Prelude.{◌≡◌, ℕ, ◌+◌, ◌-◌, ◌%◌, ◌^◌, Bool, true, false, ◌==◌, ◌||◌, not, List, ◌∷◌, ◌++◌, length, map, flat_map, filter, min, ◌⊎◌}
use Rattle.std.specs.List.{AllByRecursion, list_all}
use Rattle.std.specs.Char.{is_ascii_hexdigit, to_ascii_uppercase}
use Rattle.cob_records.specs.Hex.{hex_text}
use Rattle.cob_source.specs.Lines.{lines}
use Rattle.cob_program_job.specs.declared.job_data.DataFault.{DataFault}
use Rattle.cob_program_job.specs.declared.job_data.DataFault.TheVariants.{Line, Memory}

-- what may stand in a line of data: the digits, of either case, and the space
abbrev pub is_of_data : ℕ → Bool
is_of_data c = is_ascii_hexdigit c || (c == 32)

-- a line of data
abbrev pub is_data_line : List ℕ → Bool
is_data_line line = list_all is_of_data line

-- a character other than the space
abbrev pub is_no_space : ℕ → Bool
is_no_space c = not (c == 32)

-- the digits of a line of data: what is no space
abbrev pub line_digits : List ℕ → List ℕ
line_digits line = filter is_no_space line

-- the digits of lines, one line behind the other
abbrev pub data_digits : List (List ℕ) → List ℕ
data_digits ls = flat_map line_digits ls

-- all of these are lines of data
abbrev pub AreDataLines : List (List ℕ) → Type 0
AreDataLines ls = AllByRecursion (λ line. is_data_line line ≡ true) ls

-- digits that are the text of these bytes, but for the case of letters
abbrev pub AreDigitsOf : List ℕ → List ℕ → Type 0
AreDigitsOf digits bytes = map to_ascii_uppercase digits ≡ hex_text bytes

-- the data are these bytes
pub record IsData (text bytes : List ℕ) : Type 0 where
  pub each : AreDataLines (lines text)
  pub digits : AreDigitsOf (data_digits (lines text)) bytes

-- the number of the line behind so many others, the first of which has the number `first`; from the greatest u32 on it is that one
abbrev pub line_number_behind : ℕ → ℕ → ℕ
line_number_behind first count = min (first + count) (2 ^ 32 - 1)

-- a line is none of data, and all before it are
pub record IsFirstBad (text : List ℕ) (first number : ℕ) : Type 0 where
  pub before : List (List ℕ)
  pub line : List ℕ
  pub after : List (List ℕ)
  pub lines_are : lines text ≡ before ++ line ∷ after
  pub each : AreDataLines before
  pub bad : is_data_line line ≡ false
  pub number_is : number ≡ line_number_behind first (length before)

-- all are lines of data, with an odd number of digits, and this is the last
pub record IsLastOfOdd (text : List ℕ) (first number : ℕ) : Type 0 where
  pub each : AreDataLines (lines text)
  pub odd : length (data_digits (lines text)) % 2 ≡ 1
  pub number_is : number ≡ line_number_behind first (length (lines text) - 1)

-- data whose first line has the number `first` are refused by this fault; want of memory says nothing of them
abbrev pub IsRefusedBy : List ℕ → ℕ → DataFault → Type 0
IsRefusedBy text first (Line number) = IsFirstBad text first number ⊎ IsLastOfOdd text first number
IsRefusedBy text first Memory = Unit {0}
