-- The pieces of a word: the statements of a paragraph need it cut again at brackets and commas.
use Rattle.std.specs.Prelude.{ℕ, Bool, true, ◌==◌, ◌||◌, if◌then◌else◌, List, [], ◌∷◌}
use Rattle.cob_source.specs.declared.token.Cell.{Cell}

-- a bracket, which opens or closes
abbrev pub is_bracket : ℕ → Bool
is_bracket b = (b == 40) || (b == 41)

-- a character at which a word is cut
abbrev pub is_cut : ℕ → Bool
is_cut b = is_bracket b || (b == 44)

-- nothing is left, or such a character comes first
abbrev pub cut_first : List Cell → Bool
cut_first [] = true
cut_first (c ∷ cs) = is_cut c.byte

-- the pieces with this character before their first one
abbrev pub led_by : Cell → List (List Cell) → List (List Cell)
led_by c [] = (c ∷ []) ∷ []
led_by c (piece ∷ more) = (c ∷ piece) ∷ more

-- this character before these characters, whose pieces these are
abbrev pub piece_before : Cell → List Cell → List (List Cell) → List (List Cell)
piece_before c cs more =
    if c.byte == 44 then more else
    if is_bracket c.byte || cut_first cs then (c ∷ []) ∷ more else led_by c more

-- a word's pieces: each bracket is one, a comma only separates, and other characters stand together
abbrev pub pieces : List Cell → List (List Cell)
pieces [] = []
pieces (c ∷ cs) = piece_before c cs (pieces cs)
