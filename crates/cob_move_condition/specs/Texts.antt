-- Texts with spaces behind them.
use Rattle.std.specs.Prelude.{◌≡◌, ℕ, List, [], ◌∷◌}
use Rattle.cob_cp037.specs.Named.{space_byte}
use Rattle.cob_move_receive.specs.Characters.{AreBytesOf}

-- the first byte of a text, and a space where there is none
abbrev pub first_or_space : List ℕ → ℕ
first_or_space [] = space_byte
first_or_space (x ∷ xs) = x

-- the bytes behind the first
abbrev pub behind_first : List ℕ → List ℕ
behind_first [] = []
behind_first (x ∷ xs) = xs

-- the bytes of a literal's characters begin with this byte, and go on with those of the characters behind it
abbrev pub BeginsBy : List ℕ → ℕ → List ℕ → Type 0
BeginsBy literal byte behind = (bytes : List ℕ) → AreBytesOf behind bytes
    → (coded : List ℕ) × AreBytesOf literal coded × (first_or_space coded ≡ byte) × (behind_first coded ≡ bytes)
