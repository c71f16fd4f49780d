-- Why no text is made of a copybook's words.
use Rattle.std.specs.Prelude.{◌≡◌, ◌++◌, ◌∷◌, true, ⊤, ℕ, List, map, Option, None, Some}
use Rattle.cob_source.specs.Tokens.{Lexeme}
use Rattle.cob_source_copies.specs.Statements.{is_copy}
use Rattle.cob_source_copies.specs.Texts.{copied_text}
use Rattle.cob_source_copies.specs.Refusals.{IsCopyRefusal}
use Rattle.cob_source_copies.specs.declared.fault.CopyRule.{CopyRule}
use Rattle.cob_source_copies.specs.declared.fault.CopyRule.TheVariants as rule
use Rattle.cob_copybook_record.specs.Refusals.{IsNoRecord}
use Rattle.cob_copybook_record.specs.declared.record.NoRecord.{NoRecord}
use Rattle.cob_copybook_text.specs.Meant.{AreMeantWords, ComeTo}
use Rattle.cob_copybook_text.specs.declared.copying.Copying.{Copying}
use Rattle.cob_copybook_text.specs.declared.copying.Copying.TheVariants as copying
use Rattle.cob_copybook_text.specs.declared.fault.RecordTextFault.{RecordTextFault}
use Rattle.cob_copybook_text.specs.declared.fault.RecordTextFault.TheVariants as fault

-- a word COPY stands on this line
pub record HasCopyOn (words : List Lexeme) (line : ℕ) : Type 0 where
  pub front : List Lexeme
  pub copy : Lexeme
  pub rest : List Lexeme
  pub words_are : words ≡ front ++ copy ∷ rest
  pub is : is_copy copy ≡ true
  pub on_line : line ≡ copy.line

-- words in which something is replaced hold a word COPY on this line; or memory was refused
abbrev pub IsNestedRefusal : CopyRule → ℕ → List Lexeme → Type 0
IsNestedRefusal rule.Nested line words = HasCopyOn words line
IsNestedRefusal rule.Memory line words = line ≡ 0
IsNestedRefusal rule line words = ⊥

-- memory was refused
abbrev pub IsMemoryRefusal : CopyRule → ℕ → Type 0
IsMemoryRefusal rule.Memory line = line ≡ 0
IsMemoryRefusal rule line = ⊥

-- words come to none: they break this rule of COPY on this line, or memory was refused
abbrev pub IsCopyingRefusal : Copying → CopyRule → ℕ → List Lexeme → Type 0
IsCopyingRefusal copying.Left r line words = IsMemoryRefusal r line
IsCopyingRefusal (copying.CarriedOut library) r line words = IsCopyRefusal r line (map copied_text library.texts.items) words
IsCopyingRefusal (copying.Replaced exchanges) r line words = IsNestedRefusal r line words

-- no record has the name, or not one that may be chosen
abbrev pub IsUnchosen : NoRecord → Option (List ℕ) → List Lexeme → Type 0
IsUnchosen why None all = ⊥
IsUnchosen why (Some name) all = IsNoRecord why name all

-- A refusal names a rule of COPY that is broken, or why no record is chosen of what the words come to; or the words that are meant have no room in one text; or
-- memory was refused.
abbrev pub IsRecordTextRefusal : RecordTextFault → Copying → Option (List ℕ) → List Lexeme → Type 0
IsRecordTextRefusal (fault.Copy f) how name words = IsCopyingRefusal how f.rule f.line words
IsRecordTextRefusal (fault.Record why) how name words = (all : List Lexeme) × ComeTo how words all × IsUnchosen why name all
IsRecordTextRefusal fault.TooLong how name words = (own : List Lexeme) × AreMeantWords how name words own
IsRecordTextRefusal fault.Memory how name words = ⊤

-- it is no rule of the copybook that is named, but want of room in one text or of memory
abbrev pub IsWant : RecordTextFault → Type 0
IsWant (fault.Copy f) = ⊥
IsWant (fault.Record why) = ⊥
IsWant fault.TooLong = ⊤
IsWant fault.Memory = ⊤
