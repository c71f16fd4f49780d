-- What is told of a text that is refused.
use Rattle.std.specs.Prelude.{◌≡◌, ◌≢◌, ◌⊎◌, ℕ, List, [], ◌∷◌, ◌++◌, drop, ⊤, Option, Some, None}
use Rattle.std.specs.List.{AllByRecursion}
use Rattle.cob_source.specs.Tokens.{Lexeme}
use Rattle.cob_source.specs.Words.{AreWordsOf}
use Rattle.cob_source.specs.declared.fault.SourceRule.{SourceRule}
use Rattle.cob_source.specs.declared.fault.SourceRule.TheVariants as source
use Rattle.cob_copybook_clauses.specs.Entries.{FirstSentence, HasNoStop}
use Rattle.cob_copybook_entry.specs.declared.fault.BookFault.{BookFault}
use Rattle.cob_copybook_entry.specs.declared.fault.BookRule.{BookRule}
use Rattle.cob_copybook_entry.specs.declared.fault.BookRule.TheVariants as rule
use Rattle.cob_copybook_entries.specs.Books.{BreaksSentence}
use Rattle.cob_copybook.specs.Books.{IsBookRefusal, IsTextRefusal}
use Rattle.cob_copybook.specs.declared.role.Role.{Role}
use Rattle.cob_report_refusals.specs.declared.refusal.Refusal.{Refusal}
use Rattle.cob_report_refusals.specs.declared.spots.Spot.{Spot}

-- a rule that an entry can break by itself
abbrev pub IsOfSentences : BookRule → Type 0
IsOfSentences rule.Grammar = ⊤
IsOfSentences (rule.Picture fault) = ⊤
IsOfSentences (rule.LeftOut word) = ⊤
IsOfSentences rule.Name = ⊤
IsOfSentences rule.Table = ⊤
IsOfSentences rule.Value = ⊤
IsOfSentences other = ⊥

-- one that a text of an entry breaks, or a word that is left out
abbrev pub IsOfTexts : BookRule → Type 0
IsOfTexts (rule.Picture fault) = ⊤
IsOfTexts (rule.LeftOut word) = ⊤
IsOfTexts rule.Name = ⊤
IsOfTexts rule.Table = ⊤
IsOfTexts rule.Value = ⊤
IsOfTexts other = ⊥

-- a rule that a line breaks by itself, whatever stands before it
abbrev pub IsOfLines : SourceRule → Type 0
IsOfLines source.NotAscii = ⊤
IsOfLines source.Tab = ⊤
IsOfLines source.UnknownIndicator = ⊤
IsOfLines other = ⊥

-- the sentence breaks the rule by itself
abbrev pub BreaksByItself : BookRule → List Lexeme → Type 0
BreaksByItself r s = IsOfSentences r × BreaksSentence r s

-- these words of all, behind so many, are those of an entry: up to its period, or all that are left where no period is among them
abbrev pub IsEntryBehind : ℕ → (own words : List Lexeme) → Type 0
IsEntryBehind count own words =
    (more : List Lexeme) × (drop count words ≡ own ++ more) × (((s : List Lexeme) × FirstSentence s own []) ⊎ (HasNoStop own × (more ≡ [])))

-- An entry breaks the rule by itself; words that end at no period break the grammar.
abbrev pub IsBrokenEntry : BookRule → List Lexeme → Type 0
IsBrokenEntry r own = ((s : List Lexeme) × FirstSentence s own [] × BreaksByItself r s) ⊎ (HasNoStop own × (own ≢ []) × (r ≡ rule.Grammar))

-- if an entry is told, it is one of the text's, behind so many of its words, and breaks the rule by itself
abbrev pub HasBrokenEntry : List ℕ → BookRule → Option ℕ → Type 0
HasBrokenEntry text r None = ⊤
HasBrokenEntry text r (Some n) = (words : List Lexeme) × (own : List Lexeme) × AreWordsOf text words × IsEntryBehind n own words × IsBrokenEntry r own

-- the refusal names a rule of copybooks that the text breaks, and the entry that it tells, if it tells one, breaks it by itself
abbrev pub IsRefusedFor : Role → List ℕ → Refusal → Type 0
IsRefusedFor role text r = IsBookRefusal role r.fault.rule r.fault.line text × HasBrokenEntry text r.fault.rule r.from

-- Each of them does.
abbrev pub AreRefusals : Role → List ℕ → List Refusal → Type 0
AreRefusals role text rs = AllByRecursion (IsRefusedFor role text) rs

-- the text or its words break the rule, on this line where the rule is one of lines, and the entry that is told breaks it by itself
abbrev pub IsRefusedText : List ℕ → Refusal → Type 0
IsRefusedText text r = IsTextRefusal r.fault.rule r.fault.line text × HasBrokenEntry text r.fault.rule r.from

-- each of them names a rule that the text breaks, whatever text it is that has these words
abbrev pub AreToldOf : List Lexeme → List Refusal → Type 0
AreToldOf words rs = (text : List ℕ) → AreWordsOf text words → AllByRecursion (IsRefusedText text) rs

-- the first of the words stands on this line
abbrev pub BeginOn : ℕ → List Lexeme → Type 0
BeginOn line [] = ⊥
BeginOn line (w ∷ ws) = w.line ≡ line

-- so many words stand before the entry that is told, or where none is told it begins on this line
abbrev pub IsToldAt : Option ℕ → ℕ → ℕ → List Lexeme → Type 0
IsToldAt (Some m) line n own = n ≡ m
IsToldAt None line n own = BeginOn line own

-- These words of all are those of the entry that a refusal is told of: of the one that it tells, or else of one that begins on its line.
abbrev pub IsEntryOf : Refusal → (own words : List Lexeme) → Type 0
IsEntryOf r own words = (n : ℕ) × IsEntryBehind n own words × IsToldAt r.from r.fault.line n own

-- the first of them is of this fault
abbrev pub BeginWith : BookFault → List Refusal → Type 0
BeginWith fault [] = ⊥
BeginWith fault (r ∷ rs) = r.fault ≡ fault

-- The place is that of one of the words.
abbrev pub StandsIn : Spot → List Lexeme → Type 0
StandsIn s [] = ⊥
StandsIn s (w ∷ ws) = ((s.line ≡ w.line) × (s.column ≡ w.column)) ⊎ StandsIn s ws
