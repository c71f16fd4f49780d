-- Texts put into a library, one after another.
use Rattle.std.specs.Prelude.{◌≡◌, ℕ, ◌+◌, ◌*◌, ◌≤◌, List, [], ◌∷◌, ◌++◌, length, map, Some}
use Rattle.cob_limits.specs.Limits.{longest_text}
use Rattle.cob_source.specs.Tokens.{Lexeme}
use Rattle.cob_source.specs.declared.format.TextFormat.{TextFormat}
use Rattle.cob_source.specs.Formats.{AreWordsIn}
use Rattle.cob_source_copies.specs.Statements.{WrittenTextName}
use Rattle.cob_source_copies.specs.Texts.{AreExpanded, CopiedText, Copies, Stays, TextPart, has_copy, text_named}

-- A text with these words is put behind others, by which its own COPY statements are carried out.
abbrev pub IsTextAdded : WrittenTextName → List Lexeme → List CopiedText → List CopiedText → Type 0
IsTextAdded named ws old new = (done : List Lexeme) × AreExpanded old ws done × (new ≡ old ++ record { named = named; words = done; holds_copy = has_copy ws } ∷ [])

-- a word so many lines further on
abbrev pub on_line : ℕ → Lexeme → Lexeme
on_line lines w = record { kind = w.kind; text = w.text; line = lines + w.line; column = w.column }

-- a text with its name, as it stands in a folder, and its format
pub record NamedText : Type 0 where
  pub named : WrittenTextName
  pub format : TextFormat
  pub text : List ℕ

-- Texts make this library, put in one after another behind these: the lines of each are counted on, so that a line's number says its text.
abbrev pub MakeLibrary : List NamedText → List CopiedText → List CopiedText → Type 0
MakeLibrary [] before library = before ≡ library
MakeLibrary (t ∷ ts) before library = (ws : List Lexeme) × (more : List CopiedText)
    × AreWordsIn t.format t.text ws × IsTextAdded t.named (map (on_line ((length before + 1) * longest_text)) ws) before more × MakeLibrary ts more library

-- texts are put in one after another
abbrev pub LibraryGrows : List CopiedText → List CopiedText → Type 0
LibraryGrows before after = (ts : List NamedText) × MakeLibrary ts before after

-- a text of this name is there
abbrev pub IsKnown : List CopiedText → WrittenTextName → Type 0
IsKnown texts n = (t : CopiedText) × (text_named texts n ≡ Some t)

-- the names of the texts that a part of words copies
abbrev pub names_in_part : TextPart → List WrittenTextName
names_in_part (Stays w) = []
names_in_part (Copies c) = c.named ∷ []

-- a line by its number: of the text with this number, where 0 is the text that copies and 1 and so on are those of its library, and its number in that text
abbrev pub IsNumberOfLine : ℕ → ℕ → ℕ → Type 0
IsNumberOfLine number text line = (number ≡ text * longest_text + line) × (1 ≤ line) × (line ≤ longest_text)
