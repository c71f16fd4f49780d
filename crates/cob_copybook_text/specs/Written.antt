-- What a text says that was written for words.
use Rattle.std.specs.Prelude.{◌≡◌, ◌-◌, ◌==◌, ℕ, Bool, true, false, ◌&&◌, bytes_eq, slice_index_or, List, [], ◌∷◌, Option, None, Some}
use Rattle.cob_source.specs.Tokens.{Lexeme}
use Rattle.cob_source.specs.Words.{AreWordsOf}
use Rattle.cob_source_copies.specs.Exchanges.{is_one_kind}
use Rattle.cob_copybook_text.specs.declared.writing.RecordText.{RecordText}

-- a word of the text says what another one says: of the same kind, with the same characters, on a line that was written for the line of that one
abbrev pub is_alike : List ℕ → Lexeme → Lexeme → Bool
is_alike lines v w = is_one_kind v.kind w.kind && (bytes_eq v.text w.text && (slice_index_or lines (v.line - 1) 0 == w.line))

-- and so does each word of as many
abbrev pub say_alike : List ℕ → List Lexeme → List Lexeme → Bool
say_alike lines [] [] = true
say_alike lines [] (w ∷ ws) = false
say_alike lines (v ∷ vs) [] = false
say_alike lines (v ∷ vs) (w ∷ ws) = is_alike lines v w && say_alike lines vs ws

-- The text says these words: it has as many, each says what its own says, and for each line of the text it is known which line it was written for.
abbrev pub SaysWords : RecordText → List Lexeme → Type 0
SaysWords text own = (vs : List Lexeme) × AreWordsOf text.text.items vs × (say_alike text.lines.items vs own ≡ true)

-- the answer says these words: none is made where they are the words that came
abbrev pub IsTextForBook : Option RecordText → List Lexeme → List Lexeme → Type 0
IsTextForBook None words own = own ≡ words
IsTextForBook (Some text) words own = SaysWords text own
