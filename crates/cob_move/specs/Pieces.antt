-- What a paragraph says as far as it is read, piece by piece.
use Rattle.std.specs.Prelude.{◌≡◌, ℕ, Bool, true, List, ◌++◌, length}
use Rattle.std.specs.List.{AllByRecursion}
use Rattle.cob_source.specs.declared.ahead.WordsAhead.{WordsAhead}
use Rattle.cob_source.specs.declared.token.Token.{Token}
use Rattle.cob_source.specs.Ahead.{AreReadOf, IsReadTo}
use Rattle.cob_source.specs.Tokens.{Lexeme, lexemes}
use Rattle.cob_copybook_tree.specs.Forests.{Forest}
use Rattle.cob_copybook_tree.specs.Nodes.{Resolved}
use Rattle.cob_move_data.specs.declared.operands.StatementMoves.{StatementMoves}
use Rattle.cob_move_loops.specs.Words.{IsOther}
use Rattle.cob_move_statements.specs.declared.fault.MoveFault.{MoveFault}
use Rattle.cob_move_statements.specs.declared.fault.MoveRule.TheVariants as rule
use Rattle.cob_move_statements.specs.Statements.{IsParagraph}
use Rattle.cob_move_statements.specs.Written.{WrittenStatement}
use Rattle.cob_move_tests.specs.declared.entries.Entries.{Entries}
use Rattle.cob_move_data.specs.Moves.{moves}
use Rattle.cob_move.specs.Among.{AreMeaningsAmong}
use Rattle.cob_move.specs.Paragraphs.{IsLiteralParagraphOf}

-- memory was refused
abbrev pub IsRefusedMemory : MoveFault → Type 0
IsRefusedMemory f = f ≡ record { rule = rule.Memory; line = 0 }

-- the words are statements, none of them a word of loops, and what these mean stands behind the moves so far
pub record AddsMoves (e : Entries) (words : List Lexeme) (old new : List StatementMoves) : Type 0 where
  pub statements : List WrittenStatement
  pub own : List StatementMoves
  pub plain : AllByRecursion IsOther words
  pub spelled : IsParagraph words statements
  pub meant : AreMeaningsAmong e statements own
  pub many : length own ≡ length statements
  pub added : new ≡ old ++ own

-- the words of a text that are read are statements, none of them a word of loops, and these mean the moves
pub record SaysSoFar (text : List ℕ) (e : Entries) (list : List StatementMoves) (ahead : WordsAhead) (more : Bool) : Type 0 where
  pub words : List Lexeme
  pub statements : List WrittenStatement
  pub are_read : AreReadOf text words ahead more
  pub plain : AllByRecursion IsOther words
  pub spelled : IsParagraph words statements
  pub meant : AreMeaningsAmong e statements list
  pub many : length list ≡ length statements

-- whatever words of a text stand in front, behind them it is read to these of the next piece, whether or not more are left
abbrev pub ReadsPiece : (before after : WordsAhead) → List Token → Bool → Type 0
ReadsPiece before after words more =
    (text : List ℕ) (front : List Lexeme) → IsReadTo text front before → AreReadOf text (front ++ lexemes words) after more

-- whatever the text, where its words so far mean the moves before, those up to the next piece mean the moves now
abbrev pub SaysNext : Entries → (old new : List StatementMoves) → (before after : WordsAhead) → Bool → Type 0
SaysNext e old new before after more = (text : List ℕ) → SaysSoFar text e old before true → SaysSoFar text e new after more

-- a text without loops to items says these moves between two records, statement by statement
abbrev pub SaysMoves : List ℕ → Forest Resolved → Forest Resolved → List StatementMoves → Type 0
SaysMoves text input output list =
    (p : IsLiteralParagraphOf text input output (moves (record { input = input; output = output }) list)) × (length list ≡ length p.statements)

-- it says them among the entries that may be named
abbrev pub IsParagraphAmong : List ℕ → Entries → List StatementMoves → Type 0
IsParagraphAmong text e list = SaysMoves text e.input.now e.output.now list
