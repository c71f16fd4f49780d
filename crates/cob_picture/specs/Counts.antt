-- What is counted over a picture's positions: bytes, digits, scale and sign.
use Rattle.std.specs.Prelude.{ℕ, Bool, true, false, ◌||◌, List, [], ◌∷◌, ℤ, pos, ◌-ℤ◌, count_by, if◌then◌else◌}
use Rattle.std.specs.List.{list_any, sum_by}
use Rattle.cob_picture.specs.declared.symbol.Symbol.{Symbol}
use Rattle.cob_picture.specs.declared.symbol.Symbol.TheVariants.{A, X, Nine, S, V, P, B, Zero, Slash, Comma, Point, Z, Star, Dollar, Plus, Minus, Credit, Debit}
use Rattle.cob_picture.specs.declared.position.PositionRole.{PositionRole}
use Rattle.cob_picture.specs.declared.position.PositionRole.TheVariants.{Character, Insertion, DecimalPoint, Digit, Suppressed, Floating, FirstFloating, FixedSign, FixedCurrency, NoByte}
use Rattle.cob_picture.specs.declared.position.Position.{Position}
use Rattle.cob_picture.specs.Positions.{PlainPicture, is}

-- a place that holds a digit of the number: a 9, a Z, an asterisk or a floating symbol but the first
abbrev pub is_digit_place : PositionRole → Bool
is_digit_place Digit = true
is_digit_place Suppressed = true
is_digit_place Floating = true
is_digit_place FirstFloating = false
is_digit_place Character = false
is_digit_place Insertion = false
is_digit_place DecimalPoint = false
is_digit_place FixedSign = false
is_digit_place FixedCurrency = false
is_digit_place NoByte = false

-- a place that holds any character
abbrev pub is_character : PositionRole → Bool
is_character Character = true
is_character Insertion = false
is_character DecimalPoint = false
is_character Digit = false
is_character Suppressed = false
is_character Floating = false
is_character FirstFloating = false
is_character FixedSign = false
is_character FixedCurrency = false
is_character NoByte = false

-- how many bytes a position of this symbol takes
abbrev pub width : Symbol → ℕ
width S = 0
width V = 0
width P = 0
width Credit = 2
width Debit = 2
width A = 1
width X = 1
width Nine = 1
width B = 1
width Zero = 1
width Slash = 1
width Comma = 1
width Point = 1
width Z = 1
width Star = 1
width Dollar = 1
width Plus = 1
width Minus = 1

-- the number of bytes
abbrev pub size : List Position → ℕ
size ps = sum_by (λ p. width p.symbol) ps

-- the number of digits
abbrev pub digits : List Position → ℕ
digits ps = count_by (λ p. is_digit_place p.role) ps

-- a P stands for a digit that isn't kept
abbrev pub is_scaling : Position → Bool
is_scaling p = is P p.symbol

-- a digit, kept or not
abbrev pub is_decimal_place : Position → Bool
is_decimal_place p = is_digit_place p.role || is_scaling p

-- the number of digits, kept or not
abbrev pub decimal_places : List Position → ℕ
decimal_places ps = count_by is_decimal_place ps

-- the place of the decimal point
abbrev pub is_decimal_point : Symbol → Bool
is_decimal_point s = is V s || is Point s

-- a P at the left, before which only an S may stand, puts the point left of all: of positions or of runs, each with its symbol
abbrev pub point_leads : {A : Type 0} → (A → Symbol) → List A → Bool
point_leads symbol_of [] = false
point_leads symbol_of (x ∷ xs) = if is S (symbol_of x) then point_leads symbol_of xs else is P (symbol_of x)

-- the positions left of the first point
abbrev pub before_point : List Position → List Position
before_point [] = []
before_point (p ∷ ps) = if is_decimal_point p.symbol then [] else p ∷ before_point ps

-- the positions right of the first point
abbrev pub after_point : List Position → List Position
after_point [] = []
after_point (p ∷ ps) = if is_decimal_point p.symbol then ps else after_point ps

-- the positions left of the decimal point; where no point stands, and no P leads, these are all
abbrev pub left_of_point : List Position → List Position
left_of_point ps = if point_leads (λ p. p.symbol) ps then [] else before_point ps

-- the positions right of the decimal point
abbrev pub right_of_point : List Position → List Position
right_of_point ps = if point_leads (λ p. p.symbol) ps then ps else after_point ps

-- How many digits, kept or not, stand right of the point, less those that a P stands for left of it: the picture's unit is
-- ten to the power of minus this.
abbrev pub scale : List Position → ℤ
scale ps = pos (decimal_places (right_of_point ps)) -ℤ pos (count_by is_scaling (left_of_point ps))

-- how many digits of a picture's number stand before the point; below 0, how many places behind the point the first one stands
abbrev pub digits_before : PlainPicture → ℤ
digits_before p = pos (digits p.positions) -ℤ scale p.positions

-- a symbol that shows the sign
abbrev pub is_sign_symbol : Symbol → Bool
is_sign_symbol s = is S s || (is Plus s || (is Minus s || (is Credit s || is Debit s)))

-- whether the sign is kept
abbrev pub signed : List Position → Bool
signed ps = list_any (λ p. is_sign_symbol p.symbol) ps
