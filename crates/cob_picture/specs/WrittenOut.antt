-- A picture's text as symbols and repeats.
use Rattle.std.specs.Prelude.{◌≡◌, ◌≢◌, ℕ, ◌+◌, ◌-◌, ◌*◌, ◌<◌, ◌≤◌, ◌⊎◌, min, List, [], ◌∷◌, ◌++◌, length, replicate, Option, Result, IsSomeAnd, IsOkAnd}
use denote.Ref.{Bor}
use Rattle.std.specs.List.{fold, flat_map, AllByRecursion}
use Rattle.cob_picture.specs.declared.TheConstants.{MANY}
use Rattle.cob_picture.specs.declared.symbol.Symbol.{Symbol}
use Rattle.cob_picture.specs.declared.symbol.Run.{Run}
use Rattle.cob_picture.specs.declared.fault.PictureFault.{PictureFault}
use Rattle.cob_picture.specs.declared.fault.PictureFault.TheVariants.{UnknownSymbol, BadRepeat, LeftOut, Empty, Order, Digits, TooLong}
use Rattle.cob_picture.specs.Symbols.{chars, IsLeftOutSymbol}

-- a character 0 to 9
abbrev pub IsDigit : ℕ → Type 0
IsDigit c = (48 ≤ c) × (c < 58)

-- the number that digits spell
abbrev pub repeat_number : List ℕ → ℕ
repeat_number digits = fold (λ n c. n * 10 + (c - 48)) 0 digits

-- a symbol, alone or with the digits of its repeat
pub data SpelledSymbol : Type 0 where
  Once : Symbol → SpelledSymbol
  Times : Symbol → List ℕ → SpelledSymbol

-- a repeat has digits, and its number isn't 0
abbrev pub IsItem : SpelledSymbol → Type 0
IsItem (Once s) = Unit {0}
IsItem (Times s digits) = AllByRecursion IsDigit digits × (0 < repeat_number digits)

-- the digits of a repeat and its closing bracket
abbrev pub closed : List ℕ → List ℕ
closed digits = digits ++ 41 ∷ []

-- A repeat stands first, above 0 and closed by a bracket: this count, or 40,000 where it is more, and this rest behind it.
abbrev pub BeginsWithRepeat : List ℕ → ℕ → List ℕ → Type 0
BeginsWithRepeat text count rest =
    (digits : List ℕ)
    × AllByRecursion IsDigit digits
    × (0 < repeat_number digits)
    × (text ≡ closed digits ++ rest)
    × (count ≡ min (repeat_number digits) MANY)

-- Where a repeat stands first, above 0 and closed by a bracket, it is answered, or 40,000 where it is more, and what is behind it.
abbrev pub ReadsRepeat : List ℕ → Option (ℕ × Bor (List ℕ)) → Type 0
ReadsRepeat text answer =
    (digits more : List ℕ)
    → AllByRecursion IsDigit digits
    → 0 < repeat_number digits
    → text ≡ closed digits ++ more
    → IsSomeAnd answer (λ r. (r.0 ≡ min (repeat_number digits) MANY) × (r.1.now ≡ more))

-- the characters of an item
abbrev pub spelling : SpelledSymbol → List ℕ
spelling (Once s) = chars s
spelling (Times s digits) = chars s ++ (40 ∷ closed digits)

-- the symbol that stands there
abbrev pub symbol_in : SpelledSymbol → Symbol
symbol_in (Once s) = s
symbol_in (Times s digits) = s

-- how often the symbol stands there
abbrev pub times_in : SpelledSymbol → ℕ
times_in (Once s) = 1
times_in (Times s digits) = repeat_number digits

-- the symbols that an item stands for
abbrev pub symbols_in : SpelledSymbol → List Symbol
symbols_in i = replicate (times_in i) (symbol_in i)

-- The same, with a repeat of more than 40,000 counted as 40,000: no picture may have as many of any symbol.
abbrev pub counted_in : SpelledSymbol → List Symbol
counted_in i = replicate (min (times_in i) MANY) (symbol_in i)

-- the run of an item
abbrev pub run_of : SpelledSymbol → Run
run_of i = record { symbol = symbol_in i; count = min (times_in i) MANY }

-- no bracket opens here
abbrev pub NotOpen : List ℕ → Type 0
NotOpen [] = Unit {0}
NotOpen (c ∷ more) = c ≢ 40

-- what may follow these items: behind a symbol alone no bracket opens
abbrev pub Ready : List SpelledSymbol → List ℕ → Type 0
Ready [] rest = Unit {0}
Ready (Once s ∷ []) rest = NotOpen rest
Ready (Times s digits ∷ []) rest = Unit {0}
Ready (i ∷ j ∷ items) rest = Ready (j ∷ items) rest

-- An item stands first, of which this is the run, and this rest behind it.
abbrev pub BeginsWithItem : List ℕ → Run → List ℕ → Type 0
BeginsWithItem text run rest =
    (item : SpelledSymbol) × IsItem item × (text ≡ spelling item ++ rest) × Ready (item ∷ []) rest × (run ≡ run_of item)

-- Where an item stands first, and no bracket opens behind it, its run is answered, and what is behind it.
abbrev pub ReadsItem : List ℕ → Result (Run × Bor (List ℕ)) PictureFault → Type 0
ReadsItem text answer =
    (item : SpelledSymbol) (more : List ℕ)
    → IsItem item
    → NotOpen more
    → text ≡ spelling item ++ more
    → IsOkAnd answer (λ r. (r.0 ≡ run_of item) × (r.1.now ≡ more))

-- the text spells the items
pub record SpellsItems (text : List ℕ) (items : List SpelledSymbol) : Type 0 where
  pub each : AllByRecursion IsItem items
  pub spelled : text ≡ flat_map spelling items

-- the items stand at the front of the text, and the rest behind them
pub record Front (text : List ℕ) (items : List SpelledSymbol) (rest : List ℕ) : Type 0 where
  pub each : AllByRecursion IsItem items
  pub spelled : text ≡ flat_map spelling items ++ rest
  pub ready : Ready items rest

-- a symbol and an opening bracket, behind which no closed number above 0 stands
abbrev pub IsBadRepeat : List ℕ → Type 0
IsBadRepeat text = (s : Symbol) × (more : List ℕ) × (text ≡ chars s ++ (40 ∷ more))
    × ((digits after : List ℕ) → AllByRecursion IsDigit digits → 0 < repeat_number digits → more ≡ closed digits ++ after → ⊥)

-- What is wrong at the front of a text: a character that begins no symbol of any picture, a repeat that is none or stands
-- behind no symbol, or a symbol that is left out.
abbrev pub IsItemFault : PictureFault → List ℕ → Type 0
IsItemFault UnknownSymbol text = ((s : Symbol) (more : List ℕ) → text ≡ chars s ++ more → ⊥) × NotOpen text × ((c : ℕ) (more : List ℕ) → IsLeftOutSymbol c → text ≡ c ∷ more → ⊥)
IsItemFault BadRepeat text = ((more : List ℕ) × (text ≡ 40 ∷ more)) ⊎ IsBadRepeat text
IsItemFault LeftOut text = (c : ℕ) × (more : List ℕ) × IsLeftOutSymbol c × (text ≡ c ∷ more)
IsItemFault Empty text = ⊥
IsItemFault Order text = ⊥
IsItemFault Digits text = ⊥
IsItemFault TooLong text = ⊥

-- behind some items something stands, and it is wrong
abbrev pub IsBrokenAfter : PictureFault → List ℕ → Type 0
IsBrokenAfter f text = (items : List SpelledSymbol) × (rest : List ℕ) × Front text items rest × (0 < length rest) × IsItemFault f rest
