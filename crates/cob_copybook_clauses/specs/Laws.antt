-- What holds of entries and sentences whatever their words are.
use Rattle.std.specs.Prelude.{◌≡◌, List, [], ◌∷◌, ◌++◌}
use Rattle.cob_source.specs.Tokens.{Lexeme}
use Rattle.cob_source.specs.declared.token.TokenKind.TheVariants as kind
use Rattle.cob_copybook_clauses.specs.Written.{WrittenEntry}
use Rattle.cob_copybook_clauses.specs.Entries.{HasNoStop, IsWritten, sentences}

-- law: words are written as one entry at most
abbrev pub OneEntry : Type 0
OneEntry = (ws : List Lexeme) (a b : WrittenEntry) → IsWritten ws a → IsWritten ws b → a ≡ b

-- law: words without a Stop, a Stop and others are the sentence of the first and the sentences of the others
abbrev pub SentencesCut : Type 0
SentencesCut =
    (s rest : List Lexeme) (stop : Lexeme) → stop.kind ≡ kind.Stop → HasNoStop s
    → ((sentences (s ++ stop ∷ rest)).ended ≡ s ∷ (sentences rest).ended) × ((sentences (s ++ stop ∷ rest)).open_end ≡ (sentences rest).open_end)

-- law: words without a Stop are no sentence, and are all left
abbrev pub SentencesEnd : Type 0
SentencesEnd = (ws : List Lexeme) → HasNoStop ws → sentences ws ≡ record { ended = []; open_end = ws }
