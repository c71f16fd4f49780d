-- Numeric edited pictures, by generation.
use Rattle.std.specs.Prelude.{◌≡◌, ◌+◌, ◌<◌, ◌≤◌, Bool, true, false, ◌||◌, not, nat_le, ◌⊎◌, List, [], ◌∷◌, ◌++◌, length, Option, Some, None, if◌then◌else◌, IsTrue, IsFalse}
use Rattle.std.specs.List.{AllByRecursion, list_any, filter}
use Rattle.cob_picture.specs.declared.symbol.Symbol.{Symbol}
use Rattle.cob_picture.specs.declared.symbol.Symbol.TheVariants.{A, X, Nine, S, V, P, B, Zero, Slash, Comma, Point, Z, Star, Dollar, Plus, Minus, Credit, Debit}
use Rattle.cob_picture.specs.declared.edited.SymbolKind.{SymbolKind}
use Rattle.cob_picture.specs.declared.edited.SymbolKind.TheVariants.{OfRun, OfInsertion, OfNine, OfPoint, OfSign, OfCurrency, OfCredit, OfNone}
use Rattle.cob_picture.specs.declared.edited.EditedPart.{EditedPart}
use Rattle.cob_picture.specs.declared.edited.EditedPart.TheVariants.{Lead, Currency, Front, Whole, PointPart, Fraction, Trail}
use Rattle.cob_picture.specs.declared.edited.EditedCounts.{EditedCounts}
use Rattle.cob_picture.specs.Positions.{is, symbol_count, is_that}
use Rattle.cob_picture.specs.Runs.{is_mark}

-- The symbol of the run: the currency sign or the sign that stands twice or more, which floats; else Z or the asterisk, which
-- suppresses zeros.
abbrev pub run_symbol : List Symbol → Option Symbol
run_symbol symbols =
    if nat_le 2 (symbol_count Dollar symbols) then Some Dollar else
    if nat_le 2 (symbol_count Plus symbols) then Some Plus else
    if nat_le 2 (symbol_count Minus symbols) then Some Minus else
    if nat_le 1 (symbol_count Z symbols) then Some Z else
    if nat_le 1 (symbol_count Star symbols) then Some Star else None

-- whether the run is of a sign
abbrev pub is_sign_run : Option Symbol → Bool
is_sign_run q = is_that q Plus || is_that q Minus

-- whether the run floats
abbrev pub is_floating_run : Option Symbol → Bool
is_floating_run q = is_that q Dollar || is_sign_run q

-- what a symbol outside the run is in a numeric edited picture
abbrev pub settled_kind : Symbol → SymbolKind
settled_kind Nine = OfNine
settled_kind B = OfInsertion
settled_kind Zero = OfInsertion
settled_kind Slash = OfInsertion
settled_kind Comma = OfInsertion
settled_kind V = OfPoint
settled_kind Point = OfPoint
settled_kind Plus = OfSign
settled_kind Minus = OfSign
settled_kind Dollar = OfCurrency
settled_kind Credit = OfCredit
settled_kind Debit = OfCredit
settled_kind A = OfNone
settled_kind X = OfNone
settled_kind S = OfNone
settled_kind P = OfNone
settled_kind Z = OfNone
settled_kind Star = OfNone

-- what a symbol is, where the run is of q
abbrev pub symbol_kind : Option Symbol → Symbol → SymbolKind
symbol_kind q s = if is_that q s then OfRun else settled_kind s

-- which kinds stand in which part of the picture
abbrev pub belongs : EditedPart → SymbolKind → Bool
belongs Lead OfSign = true
belongs Lead _ = false
belongs Currency OfCurrency = true
belongs Currency _ = false
belongs Front OfRun = true
belongs Front OfInsertion = true
belongs Front _ = false
belongs Whole OfNine = true
belongs Whole OfInsertion = true
belongs Whole _ = false
belongs PointPart OfPoint = true
belongs PointPart _ = false
belongs Fraction OfNine = true
belongs Fraction OfInsertion = true
belongs Fraction OfRun = true
belongs Fraction _ = false
belongs Trail OfSign = true
belongs Trail OfCredit = true
belongs Trail _ = false

-- each symbol is of a kind that stands in this part
abbrev pub AreOf : EditedPart → Option Symbol → List Symbol → Type 0
AreOf part q symbols = AllByRecursion (λ s. belongs part (symbol_kind q s) ≡ true) symbols

-- no symbol of the part comes first
abbrev pub Stops : EditedPart → Option Symbol → List Symbol → Type 0
Stops part q [] = Unit {0}
Stops part q (s ∷ symbols) = belongs part (symbol_kind q s) ≡ false

-- The parts of a numeric edited picture, in order: a leading sign; a currency sign in its place; the run with the insertions
-- before, in and right behind it; from the first 9 on the 9s and insertions; the point; the fraction; a trailing sign, CR or DB.
pub record Edited : Type 0 where
  pub lead : List Symbol
  pub currency : List Symbol
  pub front : List Symbol
  pub whole : List Symbol
  pub point : List Symbol
  pub fraction : List Symbol
  pub trail : List Symbol

-- the symbols of a picture of these parts
abbrev pub edited_symbols : Edited → List Symbol
edited_symbols e = e.lead ++ (e.currency ++ (e.front ++ (e.whole ++ (e.point ++ (e.fraction ++ e.trail)))))

-- Each part has its kinds, and the parts are as long as may be: no insertion comes first in the whole part, since it would
-- belong to the front.
pub record HasKinds (q : Option Symbol) (e : Edited) : Type 0 where
  pub lead : AreOf Lead q e.lead
  pub currency : AreOf Currency q e.currency
  pub front : AreOf Front q e.front
  pub whole : AreOf Whole q e.whole
  pub digits_first : Stops Front q e.whole
  pub point : AreOf PointPart q e.point
  pub fraction : AreOf Fraction q e.fraction
  pub trail : AreOf Trail q e.trail

-- what is counted in the parts
abbrev pub counts_in : Option Symbol → Edited → EditedCounts
counts_in q e = record {
  signs = length e.lead + length e.trail;
  currencies = length e.currency;
  points = length e.point;
  behind_point = length e.fraction;
  between = length e.currency + (length e.front + (length e.whole + length e.point));
  nines = symbol_count Nine e.whole + symbol_count Nine e.fraction;
  run_in_front = list_any (is_that q) e.front;
  run_in_fraction = list_any (is_that q) e.fraction;
  sign_trails = list_any (λ s. belongs Lead (symbol_kind q s)) e.trail;
}

-- One currency sign outside the run at most, one point, a fraction only behind it, and one sign control of any kind.
pub record AreSingle (n : EditedCounts) : Type 0 where
  pub one_currency : n.currencies ≤ 1
  pub one_point : n.points ≤ 1
  pub fraction : n.points ≡ 0 → n.behind_point ≡ 0
  pub one_sign : n.signs ≤ 1

-- Where a sign floats there is no other sign control, and no currency sign before it. What floats begins before the point.
-- Where the fraction has symbols of the run, every digit is of the run.
pub record SuitsRun (q : Option Symbol) (n : EditedCounts) : Type 0 where
  pub no_other : IsTrue (is_sign_run q) → (n.signs ≡ 0) × (n.currencies ≡ 0)
  pub begins : IsTrue (is_floating_run q) → IsTrue n.run_in_front
  pub all_of_run : IsTrue n.run_in_fraction → n.nines ≡ 0

-- A sign that stands alone leads, and does not trail.
pub record AreAllowed (q : Option Symbol) (n : EditedCounts) : Type 0 where
  pub single : AreSingle n
  pub run : SuitsRun q n
  pub lone_sign : IsTrue n.sign_trails → 0 < n.between

-- a comma or a point stands last
abbrev pub ends_in_mark : List Symbol → Bool
ends_in_mark [] = false
ends_in_mark (s ∷ []) = is_mark s
ends_in_mark (s ∷ t ∷ symbols) = ends_in_mark (t ∷ symbols)

-- the order of a numeric edited picture: its parts, neither comma nor point last, and something that is neither 9 nor V
pub record IsNumericEdited (symbols : List Symbol) : Type 0 where
  pub parts : Edited
  pub written : symbols ≡ edited_symbols parts
  pub kinds : HasKinds (run_symbol symbols) parts
  pub allowed : AreAllowed (run_symbol symbols) (counts_in (run_symbol symbols) parts)
  pub ending : IsFalse (ends_in_mark symbols)
  pub not_digits_alone : symbol_count Nine symbols + symbol_count V symbols < length symbols

-- the symbols without those that scale
abbrev pub unscaled : List Symbol → List Symbol
unscaled symbols = filter (λ s. not (is P s)) symbols

-- a P in a picture that is numeric edited without it
pub record IsScaled (symbols : List Symbol) : Type 0 where
  pub some : 0 < symbol_count P symbols
  pub edited : IsNumericEdited (unscaled symbols)

-- a currency sign, the only one, before a picture whose sign floats
pub record CurrencyLeads (symbols : List Symbol) : Type 0 where
  pub behind : List Symbol
  pub leads : symbols ≡ Dollar ∷ behind
  pub only : symbol_count Dollar behind ≡ 0
  pub floats : IsTrue (is_sign_run (run_symbol behind))
  pub edited : IsNumericEdited behind

-- what the standard has and this profile leaves out
abbrev pub IsOutsideProfile : List Symbol → Type 0
IsOutsideProfile symbols = IsScaled symbols ⊎ CurrencyLeads symbols
