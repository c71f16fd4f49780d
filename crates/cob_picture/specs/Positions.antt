-- A picture as a list of positions, and what each position is for.
use Rattle.std.specs.Prelude.{ℕ, ◌+◌, Bool, true, false, ◌||◌, ◌==◌, nat_le, List, [], ◌∷◌, map, Option, Some, None, if◌then◌else◌, replicate}
use Rattle.std.specs.List.{flat_map}
use Rattle.cob_picture.specs.declared.symbol.Symbol.{Symbol}
use Rattle.cob_picture.specs.declared.symbol.Symbol.TheVariants.{A, X, Nine, S, V, P, B, Zero, Slash, Comma, Point, Z, Star, Dollar, Plus, Minus, Credit, Debit}
use Rattle.cob_picture.specs.declared.symbol.Run.{Run}
use Rattle.cob_picture.specs.declared.position.PositionRole.{PositionRole}
use Rattle.cob_picture.specs.declared.position.PositionRole.TheVariants.{Character, Insertion, DecimalPoint, Digit, Suppressed, Floating, FirstFloating, FixedSign, FixedCurrency, NoByte}
use Rattle.cob_picture.specs.declared.position.Position.{Position}
use Rattle.cob_picture.specs.declared.category.Category.{Category}
use Rattle.cob_picture.specs.declared.category.Category.TheVariants.{Alphabetic, Numeric, Alphanumeric, AlphanumericEdited, NumericEdited}
use Rattle.cob_picture.specs.Symbols.{first_of}

-- whether two symbols are one: no two begin alike
abbrev pub is : Symbol → Symbol → Bool
is s t = first_of t == first_of s

-- how often the symbol stands there
abbrev pub symbol_count : Symbol → List Symbol → ℕ
symbol_count s [] = 0
symbol_count s (t ∷ symbols) = (if is s t then 1 else 0) + symbol_count s symbols

-- the symbols of runs, with each repeat written out
abbrev pub written_out : List Run → List Symbol
written_out runs = flat_map (λ r. replicate r.count r.symbol) runs

-- the categories whose pictures show a number, so that a 9 is a digit and not a character
abbrev pub shows_number : Category → Bool
shows_number Numeric = true
shows_number NumericEdited = true
shows_number Alphabetic = false
shows_number Alphanumeric = false
shows_number AlphanumericEdited = false

-- the categories whose pictures have insertions or more, and are limited more narrowly
abbrev pub is_edited : Category → Bool
is_edited AlphanumericEdited = true
is_edited NumericEdited = true
is_edited Alphabetic = false
is_edited Numeric = false
is_edited Alphanumeric = false

-- what a symbol that doesn't float is for
abbrev pub settled_role : Category → Symbol → PositionRole
settled_role c A = Character
settled_role c X = Character
settled_role c Nine = if shows_number c then Digit else Character
settled_role c S = NoByte
settled_role c V = NoByte
settled_role c P = NoByte
settled_role c B = Insertion
settled_role c Zero = Insertion
settled_role c Slash = Insertion
settled_role c Comma = Insertion
settled_role c Point = DecimalPoint
settled_role c Z = Suppressed
settled_role c Star = Suppressed
settled_role c Dollar = FixedCurrency
settled_role c Plus = FixedSign
settled_role c Minus = FixedSign
settled_role c Credit = FixedSign
settled_role c Debit = FixedSign

-- the currency sign or the sign that stands twice or more: it floats
abbrev pub floating : List Symbol → Option Symbol
floating symbols =
    if nat_le 2 (symbol_count Dollar symbols) then Some Dollar else
    if nat_le 2 (symbol_count Plus symbols) then Some Plus else
    if nat_le 2 (symbol_count Minus symbols) then Some Minus else None

-- whether this is the symbol that was found
abbrev pub is_that : Option Symbol → Symbol → Bool
is_that None s = false
is_that (Some q) s = is q s

-- what a position is for: of the floating symbol's places the first holds no digit
abbrev pub role_at : Category → (floats seen : Bool) → Symbol → PositionRole
role_at c floats seen s = if floats then (if seen then Floating else FirstFloating) else settled_role c s

-- the position of one symbol
abbrev pub position_at : Category → (q : Option Symbol) → (seen : Bool) → Symbol → Position
position_at c q seen s = record { symbol = s; role = role_at c (is_that q s) seen s }

-- the positions of these symbols, where q floats, and where it stood before if it was seen
abbrev pub positions_from : Category → (q : Option Symbol) → (seen : Bool) → List Symbol → List Position
positions_from c q seen [] = []
positions_from c q seen (s ∷ symbols) = position_at c q seen s ∷ positions_from c q (seen || is_that q s) symbols

-- the positions of a picture of this category with these symbols
abbrev pub positions : Category → List Symbol → List Position
positions c symbols = positions_from c (floating symbols) false symbols

-- a picture as contracts see it
pub record PlainPicture : Type 0 where
  pub category : Category
  pub positions : List Position

-- the symbols of a picture, in order
abbrev pub symbols_of : List Position → List Symbol
symbols_of ps = map (λ p. p.symbol) ps
