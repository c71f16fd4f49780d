-- Runs of symbols, as a picture keeps them.
use Rattle.std.specs.Prelude.{◌≡◌, ◌<◌, Bool, false, ◌||◌, List, [], ◌∷◌}
use Rattle.std.specs.List.{AllByRecursion}
use Rattle.cob_picture.specs.declared.symbol.Symbol.{Symbol}
use Rattle.cob_picture.specs.declared.symbol.Symbol.TheVariants.{Comma, Point}
use Rattle.cob_picture.specs.declared.symbol.Run.{Run}
use Rattle.cob_picture.specs.Positions.{is}

-- no run is of nothing
abbrev pub ArePositive : List Run → Type 0
ArePositive runs = AllByRecursion (λ r. 0 < r.count) runs

-- something else comes first, or nothing
abbrev pub NotFirstSymbol : Symbol → List Symbol → Type 0
NotFirstSymbol s [] = Unit {0}
NotFirstSymbol s (t ∷ symbols) = t ≡ s → ⊥

-- a comma or a point
abbrev pub is_mark : Symbol → Bool
is_mark s = is Comma s || is Point s

-- a comma or a point stands in the last run
abbrev pub runs_end_in_mark : List Run → Bool
runs_end_in_mark [] = false
runs_end_in_mark (r ∷ []) = is_mark r.symbol
runs_end_in_mark (r ∷ t ∷ runs) = runs_end_in_mark (t ∷ runs)
