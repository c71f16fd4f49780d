-- What readers of paragraphs with loops say of what they answer.
use Rattle.std.specs.Prelude.{◌≡◌, ◌⊎◌, ◌<◌, List, [], ◌++◌, length}
use Rattle.cob_source.specs.Tokens.{Lexeme}
use Rattle.cob_move_data.specs.declared.operands.StatementMoves.{StatementMoves}
use Rattle.cob_move_loops.specs.Few.{AreLoopsApart, Clashes, IsFew, IsShallow, loops_of}
use Rattle.cob_move_loops.specs.Passages.{IsPassage, Passage, WrittenLoop}
use Rattle.cob_move_loops.specs.Turns.{words_by_turn}
use Rattle.cob_move_names.specs.Candidates.{Candidate}
use Rattle.cob_move_statements.specs.declared.fault.MoveFault.{MoveFault}
use Rattle.cob_move_statements.specs.declared.fault.MoveRule.TheVariants as rule
use Rattle.cob_move_statements.specs.Statements.{IsEndedStatement, Several}
use Rattle.cob_move_statements.specs.Written.{WrittenStatement}
use Rattle.cob_move_tests.specs.declared.entries.Entries.{Entries}
use Rattle.cob_move.specs.Among.{AreMeaningsAmong}
use Rattle.cob_move_tests.specs.Entries.{nameable}
use Rattle.cob_move_apply.specs.Some.{SomeOf}
use Rattle.cob_move.specs.Bodies.{AreCounters, AreSpelled, IsPassageRefusal, RunIsRefused}
use Rattle.cob_move.specs.Paragraphs.{IsLiteral}

-- words are a passage that is not empty, with few loops in one another, which come to few statements
pub record HasChecked (body : List Lexeme) : Type 0 where
  pub passage : Passage
  pub some : 0 < length body
  pub says : IsPassage passage body
  pub shallow : IsShallow body
  pub few : IsFew passage

-- words break a rule of passages, whatever may be named
abbrev pub BreaksAnywhere : MoveFault → List Lexeme → Type 0
BreaksAnywhere f body = (all : List Candidate) → IsPassageRefusal f.rule f.line all body

-- whatever passage words are, a loop of it on the line of the fault has another's counter; or memory was refused
abbrev pub IsClashOf : MoveFault → List Lexeme → Type 0
IsClashOf f body =
    (f ≡ record { rule = rule.Memory; line = 0 })
    ⊎ ((f.rule ≡ rule.Counter) × ((p : Passage) → IsPassage p body → Clashes [] p f.line))

-- whatever passage words are, these are its loops, and none has another's counter
abbrev pub AreItsLoops : List Lexeme → List WrittenLoop → Type 0
AreItsLoops body ls = (p : Passage) → IsPassage p body → AreLoopsApart [] p × (ls ≡ loops_of p)

-- words are a passage that is not empty, with few loops in one another, which come to few statements, and with counters of their own
pub record HasJudged (all : List Candidate) (body : List Lexeme) : Type 0 where
  pub passage : Passage
  pub some : 0 < length body
  pub says : IsPassage passage body
  pub shallow : IsShallow body
  pub few : IsFew passage
  pub counters : AreCounters all passage

-- the words are statements, and what these mean stands behind the moves so far
pub record AddsRun (e : Entries) (words : List Lexeme) (old new : List StatementMoves) : Type 0 where
  pub statements : List WrittenStatement
  pub own : List StatementMoves
  pub spelled : Several IsEndedStatement statements words
  pub meant : AreMeaningsAmong e statements own
  pub many : length own ≡ length statements
  pub added : new ≡ old ++ own

-- runs spell statements, and these mean the moves
pub record SayRuns (e : Entries) (runs : List (List Lexeme)) (list : List StatementMoves) : Type 0 where
  pub statements : List WrittenStatement
  pub spelled : AreSpelled runs statements
  pub meant : AreMeaningsAmong e statements list
  pub many : length list ≡ length statements

-- words are no statements, or one of them breaks a rule, or memory was refused
abbrev pub RunRefused : MoveFault → Entries → List Lexeme → Type 0
RunRefused f e ws = RunIsRefused f (nameable e) e.input.now e.output.now ws

-- words behind a heading are refused: they break a rule of passages; or they are one, and a run of it is refused once it is written out
abbrev pub BodyRefused : MoveFault → Entries → List Lexeme → Type 0
BodyRefused f e body =
    IsPassageRefusal f.rule f.line (nameable e) body
    ⊎ ((p : Passage) × IsPassage p body × SomeOf (RunRefused f e) (words_by_turn [] p))

-- whatever passage words are, its loops all end by numbers
abbrev pub AreLiteralWords : List Lexeme → Type 0
AreLiteralWords body = (p : Passage) → IsPassage p body → IsLiteral p

-- words behind a heading are a passage, whose runs mean these moves
pub record SaysBody (e : Entries) (body : List Lexeme) (list : List StatementMoves) : Type 0 where
  pub judged : HasJudged (nameable e) body
  pub statements : List WrittenStatement
  pub spelled : AreSpelled (words_by_turn [] judged.passage) statements
  pub meant : AreMeaningsAmong e statements list
  pub many : length list ≡ length statements
