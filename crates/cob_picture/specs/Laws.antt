-- What follows from the definitions, said as laws.
use Rattle.std.specs.Prelude.{◌≡◌, ℕ, ◌<◌, Bool, true, false, List, ◌∷◌, ◌++◌}
use Rattle.std.specs.List.{AllByRecursion}
use Rattle.cob_picture.specs.declared.fault.PictureFault.{PictureFault}
use Rattle.cob_picture.specs.declared.category.Category.TheVariants.{NumericEdited}
use Rattle.cob_picture.specs.declared.position.Position.{Position}
use Rattle.cob_picture.specs.declared.position.PositionRole.{PositionRole}
use Rattle.cob_picture.specs.declared.position.PositionRole.TheVariants.{Character, Insertion, DecimalPoint, Digit, Suppressed, Floating, FirstFloating, FixedSign, FixedCurrency, NoByte}
use Rattle.cob_picture.specs.declared.symbol.Symbol.{Symbol}
use Rattle.cob_picture.specs.Positions.{PlainPicture, is_that, positions}
use Rattle.cob_picture.specs.Counts.{is_decimal_point, size}
use Rattle.cob_picture.specs.Edited.{run_symbol}
use Rattle.cob_picture.specs.Pictures.{IsPicture, IsPictureOf, BreaksPictureRule}

-- a text is one picture at most
abbrev pub IsOnePicture : Type 0
IsOnePicture = (text : List ℕ) (p q : PlainPicture) → IsPictureOf text p → IsPictureOf text q → p ≡ q

-- a text that is a picture breaks no rule
abbrev pub PictureBreaksNoRule : Type 0
PictureBreaksNoRule = (text : List ℕ) (p : PlainPicture) (f : PictureFault) → IsPictureOf text p → BreaksPictureRule f text → ⊥

-- an item of each picture takes a byte at least
abbrev pub TakesBytes : Type 0
TakesBytes = (text : List ℕ) (p : PlainPicture) → IsPictureOf text p → 0 < size p.positions

-- a place of the run
abbrev pub is_run_role : PositionRole → Bool
is_run_role Suppressed = true
is_run_role Floating = true
is_run_role FirstFloating = true
is_run_role Character = false
is_run_role Insertion = false
is_run_role DecimalPoint = false
is_run_role Digit = false
is_run_role FixedSign = false
is_run_role FixedCurrency = false
is_run_role NoByte = false

-- the places of a run have one symbol
abbrev pub IsOneRun : Type 0
IsOneRun =
    (symbols : List Symbol) → IsPicture NumericEdited symbols
    → AllByRecursion (λ x. is_run_role x.role ≡ true → is_that (run_symbol symbols) x.symbol ≡ true) (positions NumericEdited symbols)

-- before the first floating symbol stands no place of the run, and no point
abbrev pub FirstLeads : Type 0
FirstLeads =
    (symbols : List Symbol) (before after : List Position) (first : Position) → IsPicture NumericEdited symbols
    → positions NumericEdited symbols ≡ before ++ first ∷ after → first.role ≡ FirstFloating
    → AllByRecursion (λ x. (is_run_role x.role ≡ false) × (is_decimal_point x.symbol ≡ false)) before
