-- Where what is told of a refusal points.
use Rattle.std.specs.Prelude.{◌≡◌, ◌⊎◌, ℕ, List, [], ◌∷◌, drop, Option, Some, None}
use Rattle.cob_source.specs.Tokens.{Lexeme}
use Rattle.cob_move_loops.specs.Words.{IsOther, IsPeriod}
use Rattle.cob_move_statements.specs.Statements.{EndsStatement}
use Rattle.cob_report_refusals.specs.Refused.{IsEntryOf, StandsIn}
use Rattle.cob_report_refusals.specs.declared.refusal.MoveRefusal.{MoveRefusal}
use Rattle.cob_report_refusals.specs.declared.refusal.Refusal.{Refusal}
use Rattle.cob_report_refusals.specs.declared.spots.Spot.{Spot}
use Rattle.cob_report_refusal_words.specs.declared.told.Caret.{Caret}

-- the caret begins where one of the words does
abbrev pub IsUnderOne : Caret → List Lexeme → Type 0
IsUnderOne c words = StandsIn (record { line = c.line; column = c.column }) words

-- The caret is under a word of the entry that a refusal is told of, or under its period.
abbrev pub IsUnderEntry : Refusal → Caret → (words : List Lexeme) → Type 0
IsUnderEntry r c words = (own : List Lexeme) × IsEntryOf r own words × IsUnderOne c own

-- the caret begins where the word does
abbrev pub IsUnder : Caret → Lexeme → Type 0
IsUnder c w = (c.line ≡ w.line) × (c.column ≡ w.column)

-- a word with which a statement goes on as it is written: neither MOVE nor a period, nor a word round statements
abbrev pub GoesOn : Lexeme → Type 0
GoesOn w = (EndsStatement (w ∷ []) → ⊥) × IsOther w

-- the caret is under one of the words with which a statement goes on here, or under the period behind them
abbrev pub IsUnderLater : Caret → List Lexeme → Type 0
IsUnderLater c [] = ⊥
IsUnderLater c (w ∷ ws) = (IsPeriod w × IsUnder c w) ⊎ (GoesOn w × (IsUnder c w ⊎ IsUnderLater c ws))

-- the caret is under a word of the statement that begins here, as it is written
abbrev pub IsUnderFirst : Caret → List Lexeme → Type 0
IsUnderFirst c [] = ⊥
IsUnderFirst c (w ∷ ws) = IsUnder c w ⊎ IsUnderLater c ws

-- the first of the words stands at this place, if one is told, or else on this line
abbrev pub BeginAt : Option Spot → ℕ → List Lexeme → Type 0
BeginAt at line [] = ⊥
BeginAt (Some s) line (w ∷ ws) = (w.line ≡ s.line) × (w.column ≡ s.column)
BeginAt None line (w ∷ ws) = w.line ≡ line

-- The caret is under a word of the statement that a refusal is told of: of one that begins at its place, or where it has none, on its line.
abbrev pub IsUnderStatement : MoveRefusal → Caret → (words : List Lexeme) → Type 0
IsUnderStatement r c words = (n : ℕ) × BeginAt r.at r.fault.line (drop n words) × IsUnderFirst c (drop n words)
