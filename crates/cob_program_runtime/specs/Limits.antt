-- The text in which the system tells a process its limits: a line for each, with its name, the soft limit, the hard limit and the unit, apart by spaces.
use Rattle.std.specs.Prelude.{◌≡◌, ℕ, ◌^◌, ◌<◌, ◌==◌, List, ◌++◌, length, take, codes}
use Rattle.std.specs.List.{before_first, position_or_len}
use Rattle.std.specs.Str.{trim_start}
use Rattle.std.specs.Str.Parse.{IsNumeral, digits_value, without_leading_plus}

-- the end of a line, and how the line behind it begins that tells the limit on the size of a file
abbrev pub size_name : List ℕ
size_name = codes "\nMax file size"

-- this is what stands in a text behind the first place of a name
pub record StandsBehind (name text behind : List ℕ) : Type 0 where
  pub before : List ℕ
  pub whole : text ≡ before ++ (name ++ behind)
  pub first : (front back : List ℕ) → text ≡ front ++ (name ++ back) → length front < length before → ⊥

-- a word is this number, in decimal digits; it has 64 bits
pub record IsSize (word : List ℕ) (size : ℕ) : Type 0 where
  pub digits : IsNumeral 10 (without_leading_plus word)
  pub value : digits_value 10 (without_leading_plus word) ≡ size
  pub fits : size < 2 ^ 64

-- white space stands there, then this number, and behind it a space
pub record SaysLimit (words : List ℕ) (size : ℕ) : Type 0 where
  pub space : position_or_len (λ byte. byte == 32) (trim_start words) < length (trim_start words)
  pub number : IsSize (before_first (λ byte. byte == 32) (trim_start words)) size

-- The text tells this soft limit on the size of a file: the number behind the first such name, in front of the hard limit.
abbrev pub TellsLimit : List ℕ → ℕ → Type 0
TellsLimit text size = (behind : List ℕ) × StandsBehind size_name text behind × SaysLimit behind size

-- a front of the text tells it
abbrev pub TellsLimitInFront : List ℕ → ℕ → Type 0
TellsLimitInFront text size = (count : ℕ) × TellsLimit (take count text) size
