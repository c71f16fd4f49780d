-- The greatest size of blocks, as a word says it.
use Rattle.std.specs.Prelude.{◌≡◌, ℕ, ◌+◌, ◌-◌, ◌*◌, ◌<◌, ◌≤◌, true, List, [], ◌∷◌, length}
use Rattle.std.specs.Char.{is_ascii_digit}
use Rattle.std.specs.List.{AllByRecursion}
use Rattle.cob_records.specs.Blocks.{IsBlockSize}

-- the number that these digits spell behind others that spell this one, the highest first
abbrev pub spelled_behind : ℕ → List ℕ → ℕ
spelled_behind front [] = front
spelled_behind front (c ∷ cs) = spelled_behind (front * 10 + (c - 48)) cs

-- the characters are decimal digits, in ASCII, and spell this number behind the one before
abbrev pub SpellsBehind : (front : ℕ) → List ℕ → ℕ → Type 0
SpellsBehind front digits number = AllByRecursion (λ c. is_ascii_digit c ≡ true) digits × (spelled_behind front digits ≡ number)

-- A word says this greatest size of blocks: in one to five decimal digits, the first of which may be zeros.
pub record SaysBlockSize (word : List ℕ) (most : ℕ) : Type 0 where
  pub some : 0 < length word
  pub few : length word ≤ 5
  pub spells : SpellsBehind 0 word most
  pub size : IsBlockSize most
