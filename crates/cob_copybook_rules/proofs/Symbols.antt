-- The symbols that stand in a picture.
use Rattle.std.proofs.Common.{◌≡◌, Bool, ◌||◌, List, [], ◌∷◌, refl, ap}
use Rattle.std.specs.List.{list_any}
use Rattle.cob_picture.specs.declared.symbol.Symbol.{Symbol}
use Rattle.cob_picture.specs.declared.position.Position.{Position}
use Rattle.cob_picture.specs.Positions.{symbols_of}

-- a test of symbols holds at a position where it holds of a symbol
pub any_symbols : (test : Symbol → Bool) (ps : List Position) → list_any (λ p. test p.symbol) ps ≡ list_any test (symbols_of ps)
any_symbols test [] = refl
any_symbols test (p ∷ ps) = ap (λ (b : Bool). test p.symbol || b) (any_symbols test ps)
