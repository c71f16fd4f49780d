-- What the readers of values say of what they answer, and of the words that they leave.
use Rattle.std.specs.Prelude.{◌≡◌, ℕ, List, [], ◌∷◌, ◌++◌, Option, IsSomeAnd}
use denote.Ref.{Bor}
use Rattle.cob_source.specs.Tokens.{Lexeme, lexemes}
use Rattle.cob_source.specs.declared.token.Token.{Token}
use Rattle.cob_copybook_entry.specs.Described.{PlainValue}
use Rattle.cob_copybook_entry.specs.declared.name.Name.{Name}
use Rattle.cob_copybook_clauses.specs.Entries.{IsCondition, is_condition}
use Rattle.cob_copybook_clauses.specs.Names.{IsName}
use Rattle.cob_copybook_clauses.specs.Written.{WrittenValue}
use Rattle.cob_copybook_entries.specs.Meaning.{IsConstantOf}
use Rattle.cob_copybook_conditions.specs.Written.{WrittenSpan}
use Rattle.cob_copybook_conditions.specs.Entries.{AreSpansWritten, IsListedValue, IsSpanWritten, IsThroughWord}
use Rattle.cob_copybook_conditions.specs.Names.{AreSpansOf, IsSpanOf, PlainConditionName, PlainSpan, SaysBy, last_entry_by, with_said}

-- the words are those of one value, and mean it
pub record IsValueMeant (c : PlainValue) (ws : List Lexeme) : Type 0 where
  pub written : WrittenValue
  pub is : IsListedValue written ws
  pub means : IsConstantOf written c

-- the words are those of one value, or of two with THROUGH between them, and mean this
pub record IsSpanMeant (s : PlainSpan) (ws : List Lexeme) : Type 0 where
  pub written : WrittenSpan
  pub is : IsSpanWritten written ws
  pub means : IsSpanOf written s

-- the words are those of values one behind another, and mean these
pub record AreSpansMeant (ss : List PlainSpan) (ws : List Lexeme) : Type 0 where
  pub written : List WrittenSpan
  pub are : AreSpansWritten written ws
  pub mean : AreSpansOf written ss

-- THROUGH doesn't come first
abbrev pub NotThroughFirst : List Lexeme → Type 0
NotThroughFirst [] = Unit {0}
NotThroughFirst (w ∷ ws) = IsThroughWord w → ⊥

-- a sentence is a level 88 entry up to VALUE with this name, and these words stand behind VALUE
pub record IsNamedCondition (sentence : List Lexeme) (name : List ℕ) (more : List Lexeme) : Type 0 where
  pub is : IsCondition sentence name
  pub legal : IsName name
  pub behind : is.more ≡ more

-- a reader answers the name, and leaves the words behind VALUE
abbrev pub AnswersName : Option (Name × Bor (List Token)) → List ℕ → List Lexeme → Type 0
AnswersName answer name more = IsSomeAnd answer (λ r. (r.0 ≡ name) × (lexemes r.1.now ≡ more))

-- The names after are those before, and behind them what a sentence behind the data entry with this number says; and then this is the number of the last data entry.
abbrev pub AddsName : ℕ → List Lexeme → ℕ → (before after : List PlainConditionName) → Type 0
AddsName last s now before after =
    (said : Option PlainConditionName)
    × SaysBy (is_condition s) last s said
    × (now ≡ last_entry_by (is_condition s) last)
    × (after ≡ before ++ with_said said [])
