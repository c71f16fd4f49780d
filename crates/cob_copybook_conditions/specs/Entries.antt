-- The words of a whole level 88 entry (ANSI X3.23-1985, Data Division: VALUE clause, format 2).
use Rattle.std.specs.Prelude.{◌≡◌, ◌⊎◌, ◌<◌, codes, List, [], ◌∷◌, ◌++◌, length}
use Rattle.cob_source.specs.Tokens.{Lexeme}
use Rattle.cob_decimal.specs.Literals.{Literal}
use Rattle.cob_copybook_clauses.specs.Clauses.{IsConstant, IsFree, IsOrAre}
use Rattle.cob_copybook_clauses.specs.Entries.{IsCondition}
use Rattle.cob_copybook_clauses.specs.Names.{IsName}
use Rattle.cob_copybook_clauses.specs.Written.{WrittenValue, Word, Quoted, Figure, Repeated}
use Rattle.cob_copybook_entries.specs.Parts.{IsLiteralOf}
use Rattle.cob_copybook_conditions.specs.Written.{WrittenConditionName, WrittenSpan, One, FromTo}

-- a constant that is a word is a numeric literal, of however many digits
abbrev pub IsLiteralWord : WrittenValue → Type 0
IsLiteralWord (Word text) = (l : Literal) × IsLiteralOf l text
IsLiteralWord (Quoted text) = Unit {0}
IsLiteralWord (Figure f) = Unit {0}
IsLiteralWord (Repeated text) = Unit {0}

-- the words of one value: a numeric or quoted literal, or a figurative constant
abbrev pub IsListedValue : WrittenValue → List Lexeme → Type 0
IsListedValue v ws = IsConstant v ws × IsLiteralWord v

-- THROUGH or THRU; no numeric literal is such a word, so it is never a value
abbrev pub IsThroughWord : Lexeme → Type 0
IsThroughWord w = IsFree (codes "THROUGH") w ⊎ IsFree (codes "THRU") w

-- the words of one value, or of two with THROUGH between them
abbrev pub IsSpanWritten : WrittenSpan → List Lexeme → Type 0
IsSpanWritten (One v) ws = IsListedValue v ws
IsSpanWritten (FromTo v w) ws = (first last : List Lexeme) × (through : Lexeme) × IsListedValue v first × IsThroughWord through × IsListedValue w last × (ws ≡ first ++ through ∷ last)

-- the words of values one behind another
abbrev pub AreSpansWritten : List WrittenSpan → List Lexeme → Type 0
AreSpansWritten [] ws = ws ≡ []
AreSpansWritten (s ∷ ss) ws = (own rest : List Lexeme) × IsSpanWritten s own × AreSpansWritten ss rest × (ws ≡ own ++ rest)

-- The words, up to the Stop, are those of a level 88 entry with this name and these values, of which there is one at least.
pub record IsConditionName (ws : List Lexeme) (n : WrittenConditionName) : Type 0 where
  pub up_to_value : IsCondition ws n.name
  pub noise : List Lexeme
  pub own : List Lexeme
  pub legal : IsName n.name
  pub or_are : IsOrAre noise
  pub values : AreSpansWritten n.values own
  pub some : 0 < length n.values
  pub words : up_to_value.more ≡ noise ++ own
