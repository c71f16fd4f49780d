-- Numeric pictures, by generation.
use Rattle.std.specs.Prelude.{◌≡◌, ◌+◌, ◌<◌, ◌≤◌, List, ◌++◌, replicate}
use Rattle.cob_picture.specs.declared.symbol.Symbol.{Symbol}
use Rattle.cob_picture.specs.declared.symbol.Symbol.TheVariants.{S, V, P, Nine}
use Rattle.cob_picture.specs.declared.numeric.NumericParts.{NumericParts}

-- the symbols of a numeric picture whose parts stand there so often
abbrev pub numeric_symbols : NumericParts → List Symbol
numeric_symbols n = replicate n.signs S ++ (replicate n.points V ++ (replicate n.left P ++ (replicate n.nines Nine
    ++ (replicate n.right P ++ (replicate n.after V ++ replicate n.fraction Nine)))))

-- `[S] 9+ [V 9*]`, `[S] V 9+`, `[S] [V] P+ 9+` or `[S] 9+ P+ [V]`. That digits must not lack is the limit on digits, and no
-- matter of order: where they do, what stands there is `[S] [V] P*`.
pub record IsNumeric (n : NumericParts) : Type 0 where
  pub signs : n.signs ≤ 1
  pub points : n.points + n.after ≤ 1
  pub left : 0 < n.points + n.left → n.right + n.after ≡ 0
  pub right : 0 < n.right → n.fraction ≡ 0
  pub fraction : n.after ≡ 0 → n.fraction ≡ 0
  pub digitless : n.nines ≡ 0 → n.right + n.after ≡ 0
