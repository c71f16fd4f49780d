-- What holds of COPY whatever the words and the texts are.
use Rattle.std.specs.Prelude.{◌≡◌, ℕ, ◌<◌, false, List, length}
use Rattle.std.specs.List.{AllByRecursion}
use Rattle.cob_source.specs.Tokens.{Lexeme}
use Rattle.cob_source_copies.specs.declared.fault.CopyRule.{CopyRule}
use Rattle.cob_source_copies.specs.declared.fault.CopyRule.TheVariants as rule
use Rattle.cob_source_copies.specs.TextWords.{text_words, together}
use Rattle.cob_source_copies.specs.Texts.{AreExpanded, CopiedText, has_copy}
use Rattle.cob_source_copies.specs.Refusals.{IsCopyRefusal}
use Rattle.cob_source_copies.specs.Libraries.{IsNumberOfLine, MakeLibrary, NamedText}

-- law: words come to one list of words at most
abbrev pub OneExpansion : Type 0
OneExpansion = (texts : List CopiedText) (ws a b : List Lexeme) → AreExpanded texts ws a → AreExpanded texts ws b → a ≡ b

-- law: words without the word COPY come to themselves, and to nothing else, whatever texts there are
abbrev pub NothingToExpand : Type 0
NothingToExpand = (texts : List CopiedText) (ws : List Lexeme) → has_copy ws ≡ false → AreExpanded texts ws ws

-- law: words that come to others break no rule of COPY
abbrev pub ExpandedBreaksNoRule : Type 0
ExpandedBreaksNoRule = (texts : List CopiedText) (ws done : List Lexeme) (r : CopyRule) (line : ℕ) → AreExpanded texts ws done → IsCopyRefusal r line texts ws → r ≡ rule.Memory

-- law: words cut into text words and written together again are the same words
abbrev pub CutAndTogether : Type 0
CutAndTogether = (ws : List Lexeme) → AllByRecursion (λ w. 0 < length w.text) ws → together (text_words ws) ≡ ws

-- law: texts make one library at most
abbrev pub OneLibrary : Type 0
OneLibrary = (ts : List NamedText) (before a b : List CopiedText) → MakeLibrary ts before a → MakeLibrary ts before b → a ≡ b

-- law: the number of a line says its text and its number there
abbrev pub OneLine : Type 0
OneLine = (number a b m n : ℕ) → IsNumberOfLine number a m → IsNumberOfLine number b n → (a ≡ b) × (m ≡ n)
