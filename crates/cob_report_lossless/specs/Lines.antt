-- The lines of a paragraph's statements.
use Rattle.std.specs.Prelude.{◌≡◌, ℕ, List, [], ◌∷◌, ◌++◌, map}
use Rattle.cob_source.specs.Tokens.{Lexeme}
use Rattle.cob_source.specs.Words.{AreParagraphWordsOf}
use Rattle.cob_move_loops.specs.Passages.{IsPassage, Passage}
use Rattle.cob_move_loops.specs.Turns.{words_by_turn}
use Rattle.cob_move_statements.specs.Statements.{IsEndedStatement, IsHeading, Several}
use Rattle.cob_move_statements.specs.Written.{WrittenStatement}

-- the line of a statement's first word
abbrev pub line_of_statement : WrittenStatement → ℕ
line_of_statement s = s.line

-- Words spell statements, whose first words stand on these lines.
pub record AreStatementLines (ws : List Lexeme) (lines : List ℕ) : Type 0 where
  pub statements : List WrittenStatement
  pub spelled : Several IsEndedStatement statements ws
  pub lines_are : lines ≡ map line_of_statement statements

-- So do runs of words, one run's behind another's.
abbrev pub AreRunLines : List (List Lexeme) → List ℕ → Type 0
AreRunLines [] lines = lines ≡ []
AreRunLines (ws ∷ runs) lines = (own rest : List ℕ) × AreStatementLines ws own × AreRunLines runs rest × (lines ≡ own ++ rest)

-- words are a heading, if there is one, and a passage behind it
pub record HasBody (words body : List Lexeme) : Type 0 where
  pub heading : List Lexeme
  pub passage : Passage
  pub named : IsHeading heading
  pub words_are : words ≡ heading ++ body
  pub says : IsPassage passage body

-- The words of the text have a passage behind their heading. Written out, its runs spell statements, and these are the lines of their first words, in their
-- order: those of a loop once for each of its turns.
pub record AreLinesOf (text lines : List ℕ) : Type 0 where
  pub words : List Lexeme
  pub body : List Lexeme
  pub are_words : AreParagraphWordsOf text words
  pub has : HasBody words body
  pub lines_are : AreRunLines (words_by_turn [] has.passage) lines
