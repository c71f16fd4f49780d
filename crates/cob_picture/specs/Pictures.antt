-- Which text is which picture, and which rule a text breaks.
use Rattle.std.specs.Prelude.{◌≡◌, ℕ, ◌<◌, ◌≤◌, ◌⊎◌, List, length, IsTrue}
use Rattle.std.specs.List.{flat_map}
use Rattle.cob_limits.specs.Limits.{longest_edited, longest_picture, longest_record, most_digits}
use Rattle.cob_picture.specs.declared.symbol.Symbol.{Symbol}
use Rattle.cob_picture.specs.declared.fault.PictureFault.{PictureFault}
use Rattle.cob_picture.specs.declared.fault.PictureFault.TheVariants.{Empty, UnknownSymbol, BadRepeat, Order, Digits, TooLong, LeftOut}
use Rattle.cob_picture.specs.declared.position.Position.{Position}
use Rattle.cob_picture.specs.declared.category.Category.{Category}
use Rattle.cob_picture.specs.WrittenOut.{SpelledSymbol, SpellsItems, symbols_in, counted_in, IsBrokenAfter}
use Rattle.cob_picture.specs.Positions.{PlainPicture, positions, shows_number, is_edited}
use Rattle.cob_picture.specs.Counts.{size, digits, decimal_places}
use Rattle.cob_picture.specs.Edited.{IsOutsideProfile}
use Rattle.cob_picture.specs.Categories.{IsOf}

-- The limits. A picture of a number has a digit at least, and at most 31 digits, kept or not. It takes at most 32,752 bytes,
-- an edited one at most 249.
pub record IsWithinLimits (c : Category) (ps : List Position) : Type 0 where
  pub some_digits : IsTrue (shows_number c) → 0 < digits ps
  pub few_digits : decimal_places ps ≤ most_digits
  pub fits : size ps ≤ longest_record
  pub edited_fits : IsTrue (is_edited c) → size ps ≤ longest_edited

-- the symbols are those of a picture of the category
pub record IsPicture (c : Category) (symbols : List Symbol) : Type 0 where
  pub order : IsOf c symbols
  pub limits : IsWithinLimits c (positions c symbols)

-- The text is the picture: with its repeats written out it has the symbols that stand at the picture's positions, in the order
-- of its category and within the limits.
pub record IsPictureOf (text : List ℕ) (seen : PlainPicture) : Type 0 where
  pub some : 0 < length text
  pub characters : length text ≤ longest_picture
  pub items : List SpelledSymbol
  pub reads : SpellsItems text items
  pub symbols : List Symbol
  pub written : symbols ≡ flat_map symbols_in items
  pub is : IsPicture seen.category symbols
  pub positions : seen.positions ≡ positions seen.category symbols

-- Which rule on order or limits the symbols break.
abbrev pub IsMisplaced : PictureFault → List Symbol → Type 0
IsMisplaced Order symbols = ((c : Category) → IsOf c symbols → ⊥) × (IsOutsideProfile symbols → ⊥)
IsMisplaced Digits symbols = (c : Category) × IsOf c symbols × ((IsTrue (shows_number c) × (digits (positions c symbols) ≡ 0)) ⊎ (most_digits < decimal_places (positions c symbols)))
IsMisplaced TooLong symbols = (c : Category) × IsOf c symbols × ((longest_record < size (positions c symbols)) ⊎ (IsTrue (is_edited c) × (longest_edited < size (positions c symbols))))
IsMisplaced Empty symbols = ⊥
IsMisplaced UnknownSymbol symbols = ⊥
IsMisplaced BadRepeat symbols = ⊥
IsMisplaced LeftOut symbols = ((c : Category) → IsOf c symbols → ⊥) × IsOutsideProfile symbols

-- The text has symbols, with repeats counted up to 40,000, which is past every limit, and these break the rule.
abbrev pub IsMisplacedIn : PictureFault → List ℕ → Type 0
IsMisplacedIn f text = (items : List SpelledSymbol) × SpellsItems text items × IsMisplaced f (flat_map counted_in items)

-- Which rule a text breaks.
abbrev pub BreaksPictureRule : PictureFault → List ℕ → Type 0
BreaksPictureRule Empty text = length text ≡ 0
BreaksPictureRule UnknownSymbol text = IsBrokenAfter UnknownSymbol text
BreaksPictureRule BadRepeat text = IsBrokenAfter BadRepeat text
BreaksPictureRule Order text = IsMisplacedIn Order text
BreaksPictureRule Digits text = IsMisplacedIn Digits text
BreaksPictureRule TooLong text = (longest_picture < length text) ⊎ IsMisplacedIn TooLong text
BreaksPictureRule LeftOut text = IsBrokenAfter LeftOut text ⊎ IsMisplacedIn LeftOut text
