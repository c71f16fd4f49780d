-- Why no condition-names are read.
use Rattle.std.specs.Prelude.{◌≡◌, ◌≢◌, ℕ, List}
use Rattle.cob_source.specs.Tokens.{Lexeme}
use Rattle.cob_source.specs.Words.{AreWordsOf, IsSourceRefusal}
use Rattle.cob_source.specs.declared.fault.SourceRule.TheVariants as source
use Rattle.cob_copybook_entry.specs.declared.fault.BookRule.{BookRule}
use Rattle.cob_copybook_entry.specs.declared.fault.BookRule.TheVariants as rule
use Rattle.cob_copybook_entries.specs.Books.{BreaksEntryRule}

-- the text breaks the rule of the reference format on this line, or its words are no entries by the rule; want of memory is no line's, and no rule of the
-- reference format
abbrev pub IsNamesRefusal : BookRule → ℕ → List ℕ → Type 0
IsNamesRefusal (rule.Source r) line text = (r ≢ source.Memory) × IsSourceRefusal r line text
IsNamesRefusal rule.Memory line text = line ≡ 0
IsNamesRefusal r line text = (words : List Lexeme) × AreWordsOf text words × BreaksEntryRule r words
