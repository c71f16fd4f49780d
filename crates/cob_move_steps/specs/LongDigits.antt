-- Digits of numbers in two vectors: the last sixteen, and those in front of them.
use Rattle.std.specs.Prelude.{ℕ, ◌-◌, nat_lt, if◌then◌else◌, List, ◌++◌, take}

-- How many of so many digits are the last sixteen: all of them where they are fewer.
abbrev pub last_count : ℕ → ℕ
last_count count = if nat_lt count 16 then count else 16

-- So many digits of two vectors: those in front of the last sixteen, and these.
abbrev pub long_digits : (count : ℕ) → (front back : List ℕ) → List ℕ
long_digits count front back = take (count - 16) front ++ take (last_count count) back
