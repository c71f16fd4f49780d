-- The categories of pictures, each by the symbols that its pictures have.
use Rattle.std.specs.Prelude.{◌≡◌, ◌+◌, ◌<◌, List, length}
use Rattle.cob_picture.specs.declared.symbol.Symbol.{Symbol}
use Rattle.cob_picture.specs.declared.symbol.Symbol.TheVariants.{A, X, Nine, B, Zero, Slash}
use Rattle.cob_picture.specs.declared.numeric.NumericParts.{NumericParts}
use Rattle.cob_picture.specs.declared.category.Category.{Category}
use Rattle.cob_picture.specs.declared.category.Category.TheVariants.{Alphabetic, Numeric, Alphanumeric, AlphanumericEdited, NumericEdited}
use Rattle.cob_picture.specs.Positions.{symbol_count}
use Rattle.cob_picture.specs.Numeric.{IsNumeric, numeric_symbols}
use Rattle.cob_picture.specs.Edited.{IsNumericEdited}

-- A alone
pub record IsAlphabetic (symbols : List Symbol) : Type 0 where
  pub some : 0 < length symbols
  pub each : symbol_count A symbols ≡ length symbols

-- A, X and 9, not all A and not all 9
pub record IsAlphanumeric (symbols : List Symbol) : Type 0 where
  pub each : symbol_count A symbols + symbol_count X symbols + symbol_count Nine symbols ≡ length symbols
  pub not_letters : symbol_count A symbols < length symbols
  pub not_digits : symbol_count Nine symbols < length symbols

-- A, X, 9, B, 0 and the stroke, at least one A or X and one insertion
pub record IsAlphanumericEdited (symbols : List Symbol) : Type 0 where
  pub each : symbol_count A symbols + symbol_count X symbols + symbol_count Nine symbols + symbol_count B symbols + symbol_count Zero symbols + symbol_count Slash symbols ≡ length symbols
  pub characters : 0 < symbol_count A symbols + symbol_count X symbols
  pub insertions : 0 < symbol_count B symbols + symbol_count Zero symbols + symbol_count Slash symbols

-- the symbols stand in the order of the category
abbrev pub IsOf : Category → List Symbol → Type 0
IsOf Alphabetic symbols = IsAlphabetic symbols
IsOf Numeric symbols = (n : NumericParts) × IsNumeric n × (symbols ≡ numeric_symbols n)
IsOf Alphanumeric symbols = IsAlphanumeric symbols
IsOf AlphanumericEdited symbols = IsAlphanumericEdited symbols
IsOf NumericEdited symbols = IsNumericEdited symbols
