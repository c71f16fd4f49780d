-- What is told of a paragraph that is refused: its statements, each by itself.
use Rattle.std.specs.Prelude.{◌≡◌, ◌⊎◌, ℕ, List, [], ◌∷◌, ◌++◌, IfSome}
use Rattle.std.specs.List.{AllByRecursion}
use Rattle.cob_source.specs.Tokens.{Lexeme}
use Rattle.cob_source.specs.Words.{AreParagraphWordsOf}
use Rattle.cob_copybook_tree.specs.Forests.{Forest}
use Rattle.cob_copybook_tree.specs.Nodes.{Resolved}
use Rattle.cob_move_apply.specs.Some.{SomeOf}
use Rattle.cob_move_loops.specs.Passages.{IsPassage, Passage}
use Rattle.cob_move_loops.specs.Turns.{words_by_turn}
use Rattle.cob_move_loops.specs.Words.{IsOther, IsPeriod, NoPeriod}
use Rattle.cob_move_names.specs.Candidates.{all_entries}
use Rattle.cob_move_names.specs.Valued.{PlainConditionNames}
use Rattle.cob_move_statements.specs.declared.fault.MoveFault.{MoveFault}
use Rattle.cob_move_statements.specs.Statements.{EndsStatement}
use Rattle.cob_move.specs.Bodies.{IsBodyIn, RunIsRefused}
use Rattle.cob_move.specs.Paragraphs.{IsRefusalOf}
use Rattle.cob_report_refusals.specs.declared.refusal.MoveRefusal.{MoveRefusal}
use Rattle.cob_report_refusals.specs.declared.spots.Spot.{Spot}

-- a word behind which a statement goes on: neither MOVE nor a period
abbrev pub GoesOn : Lexeme → Type 0
GoesOn w = EndsStatement (w ∷ []) → ⊥

-- A statement as it is written, before other words: its first word, those up to the next MOVE or period, and all periods there.
pub record IsWrittenBefore (own more : List Lexeme) : Type 0 where
  pub first : Lexeme
  pub others : List Lexeme
  pub stops : List Lexeme
  pub go_on : AllByRecursion GoesOn others
  pub are_stops : AllByRecursion IsPeriod stops
  pub none_more : NoPeriod more
  pub ends : EndsStatement (stops ++ more)
  pub words : own ≡ first ∷ (others ++ stops)

-- One of the statements as they are written, one behind another, is this: the first, or one of those behind it.
pub data IsOneWritten : List Lexeme → List Lexeme → Type 0 where
  written_here : (own more words : List Lexeme) → IsWrittenBefore own more → words ≡ own ++ more → IsOneWritten own words
  written_behind : (own other more words : List Lexeme) → IsWrittenBefore other more → words ≡ other ++ more → IsOneWritten own more → IsOneWritten own words

-- Words in which statements stand: those of MOVE statements in a turn of the loops round them, in whatever branch; or all, where no word round statements is
-- among them.
abbrev pub IsRunOf : List Lexeme → List Lexeme → Type 0
IsRunOf run body =
    ((p : Passage) × IsPassage p body × SomeOf (λ ws. ws ≡ run) (words_by_turn [] p))
    ⊎ (AllByRecursion IsOther body × (run ≡ body))

-- One of the statements of a text is refused by itself, as it is in a turn: it is none, or it breaks a rule; refused memory has line 0.
pub record IsStatementRefusal (f : MoveFault) (text : List ℕ) (input output : Forest Resolved) : Type 0 where
  pub words : List Lexeme
  pub body : List Lexeme
  pub run : List Lexeme
  pub own : List Lexeme
  pub are_words : AreParagraphWordsOf text words
  pub is_body : IsBodyIn words body
  pub is_run : IsRunOf run body
  pub is_one : IsOneWritten own run
  pub refused : RunIsRefused f (all_entries input output) input output own

-- the first of the words stands there
abbrev pub BeginsThere : Spot → List Lexeme → Type 0
BeginsThere s [] = ⊥
BeginsThere s (w ∷ ws) = (w.line ≡ s.line) × (w.column ≡ s.column)

-- a statement that is refused so by itself begins there
abbrev pub IsRefusedThere : MoveFault → List ℕ → Forest Resolved → Forest Resolved → Spot → Type 0
IsRefusedThere f text input output s = (r : IsStatementRefusal f text input output) × BeginsThere s r.own

-- The refusal names a rule that the text breaks, or one of its statements by itself; and the place that it tells, if it tells one, is that of such a statement.
abbrev pub IsMoveRefusal : List ℕ → Forest Resolved → Forest Resolved → PlainConditionNames → MoveRefusal → Type 0
IsMoveRefusal text input output names r =
    (IsRefusalOf r.fault text input output names ⊎ IsStatementRefusal r.fault text input output) × IfSome r.at (IsRefusedThere r.fault text input output)

-- Each of them does.
abbrev pub AreMoveRefusals : List ℕ → Forest Resolved → Forest Resolved → PlainConditionNames → List MoveRefusal → Type 0
AreMoveRefusals text input output names rs = AllByRecursion (IsMoveRefusal text input output names) rs

-- these words are one of the text's statements, which is refused so by itself
abbrev pub IsRefusedStatement : MoveFault → List ℕ → Forest Resolved → Forest Resolved → List Lexeme → Type 0
IsRefusedStatement f text input output own = (r : IsStatementRefusal f text input output) × (r.own ≡ own)

-- whatever statement of these words is refused by itself, so it is of the text
abbrev pub HasRun : List ℕ → Forest Resolved → Forest Resolved → List Lexeme → Type 0
HasRun text input output run =
    (f : MoveFault) (own : List Lexeme) → IsOneWritten own run → RunIsRefused f (all_entries input output) input output own → IsRefusedStatement f text input output own

-- refusals of the statements of these words stand behind those before
abbrev pub AddsOfRun : Forest Resolved → Forest Resolved → List Lexeme → (old new : List MoveRefusal) → Type 0
AddsOfRun input output run old new =
    (text : List ℕ) (names : PlainConditionNames) → HasRun text input output run → AreMoveRefusals text input output names old → AreMoveRefusals text input output names new

-- those of words in which statements stand, of these kinds of words
abbrev pub AddsOfRuns : Forest Resolved → Forest Resolved → (List Lexeme → Type 0) → (old new : List MoveRefusal) → Type 0
AddsOfRuns input output Is old new =
    (text : List ℕ) (names : PlainConditionNames) → ((run : List Lexeme) → Is run → HasRun text input output run) → AreMoveRefusals text input output names old → AreMoveRefusals text input output names new

-- those of words behind a heading
abbrev pub AddsOfBody : Forest Resolved → Forest Resolved → List Lexeme → (old new : List MoveRefusal) → Type 0
AddsOfBody input output body old new = AddsOfRuns input output (λ run. IsRunOf run body) old new

-- the first of them is of this fault
abbrev pub FirstIsOf : MoveFault → List MoveRefusal → Type 0
FirstIsOf fault [] = ⊥
FirstIsOf fault (r ∷ rs) = r.fault ≡ fault
