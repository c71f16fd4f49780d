-- How each symbol of a picture is spelled.
use Rattle.std.specs.Prelude.{◌≡◌, ℕ, ◌⊎◌, List, [], ◌∷◌, Option, Some, None, ◌==◌, if◌then◌else◌}
use Rattle.cob_picture.specs.declared.symbol.Symbol.{Symbol}
use Rattle.cob_picture.specs.declared.symbol.Symbol.TheVariants.{A, X, Nine, S, V, P, B, Zero, Slash, Comma, Point, Z, Star, Dollar, Plus, Minus, Credit, Debit}

-- the first character of a symbol
abbrev pub first_of : Symbol → ℕ
first_of A = 65
first_of X = 88
first_of Nine = 57
first_of S = 83
first_of V = 86
first_of P = 80
first_of B = 66
first_of Zero = 48
first_of Slash = 47
first_of Comma = 44
first_of Point = 46
first_of Z = 90
first_of Star = 42
first_of Dollar = 36
first_of Plus = 43
first_of Minus = 45
first_of Credit = 67
first_of Debit = 68

-- what follows it: CR and DB have two characters
abbrev pub rest_of : Symbol → List ℕ
rest_of Credit = 82 ∷ []
rest_of Debit = 66 ∷ []
rest_of _ = []

-- the characters of a symbol
abbrev pub chars : Symbol → List ℕ
chars s = first_of s ∷ rest_of s

-- the symbol with this first character
abbrev pub symbol_with : ℕ → Option Symbol
symbol_with n =
    if n == 65 then Some A else
    if n == 88 then Some X else
    if n == 57 then Some Nine else
    if n == 83 then Some S else
    if n == 86 then Some V else
    if n == 80 then Some P else
    if n == 66 then Some B else
    if n == 48 then Some Zero else
    if n == 47 then Some Slash else
    if n == 44 then Some Comma else
    if n == 46 then Some Point else
    if n == 90 then Some Z else
    if n == 42 then Some Star else
    if n == 36 then Some Dollar else
    if n == 43 then Some Plus else
    if n == 45 then Some Minus else
    if n == 67 then Some Credit else
    if n == 68 then Some Debit else None

-- a symbol of the standard's pictures that is left out here: E, N, G or U
abbrev pub IsLeftOutSymbol : ℕ → Type 0
IsLeftOutSymbol c = (c ≡ 69) ⊎ ((c ≡ 78) ⊎ ((c ≡ 71) ⊎ (c ≡ 85)))
