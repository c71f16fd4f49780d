-- What stands behind a paragraph's heading: which words are a passage, and which rules they break.
use Rattle.std.specs.Prelude.{◌≡◌, ◌⊎◌, ℕ, ◌<◌, List, [], ◌∷◌, ◌++◌, length}
use Rattle.std.specs.List.{AllByRecursion}
use Rattle.cob_source.specs.Tokens.{Lexeme}
use Rattle.cob_copybook_names.specs.Naming.{named}
use Rattle.cob_copybook_tree.specs.Forests.{Forest}
use Rattle.cob_copybook_tree.specs.Nodes.{Resolved}
use Rattle.cob_move_loops.specs.Few.{AreLoopsApart, Clashes, IsFew, IsShallow, loops_of, opening_line}
use Rattle.cob_move_loops.specs.Passages.{Breaks, IsPassage, Passage, ToItem, ToNumber, WrittenBound, WrittenLoop}
use Rattle.cob_move_loops.specs.Words.{IsOther}
use Rattle.cob_move_names.specs.Candidates.{Candidate}
use Rattle.cob_move_statements.specs.declared.fault.MoveFault.{MoveFault}
use Rattle.cob_move_statements.specs.declared.fault.MoveRule.{MoveRule}
use Rattle.cob_move_statements.specs.declared.fault.MoveRule.TheVariants as rule
use Rattle.cob_move_statements.specs.Written.{WrittenStatement}
use Rattle.cob_move_statements.specs.Statements.{BreaksOff, IsEndedStatement, IsHeading, Several}
use Rattle.cob_move.specs.Refusals.{SomeBroken}
use Rattle.cob_move_apply.specs.Some.{SomeOf}

-- Runs of words spell statements, one run's behind another's.
abbrev pub AreSpelled : List (List Lexeme) → List WrittenStatement → Type 0
AreSpelled [] ss = ss ≡ []
AreSpelled (ws ∷ runs) ss = (own rest : List WrittenStatement) × Several IsEndedStatement own ws × AreSpelled runs rest × (ss ≡ own ++ rest)

-- no entry of the two records has this name
abbrev pub IsNoEntry : List Candidate → List ℕ → Type 0
IsNoEntry all name = named name [] all ≡ []

-- M11: each loop has a counter of its own, and none has the name of an entry
pub record AreCounters (all : List Candidate) (p : Passage) : Type 0 where
  pub apart : AreLoopsApart [] p
  pub no_entries : AllByRecursion (λ l. IsNoEntry all l.counter) (loops_of p)

-- The words of a paragraph: perhaps its name, which is no word of loops, and a passage that is not empty, with few loops in one another, which come to few statements (M12).
pub record HasPassage (words : List Lexeme) (p : Passage) : Type 0 where
  pub heading : List Lexeme
  pub body : List Lexeme
  pub named : IsHeading heading
  pub others : AllByRecursion IsOther heading
  pub words_are : words ≡ heading ++ body
  pub some : 0 < length body
  pub says : IsPassage p body
  pub shallow : IsShallow body
  pub few : IsFew p

-- the words behind the heading, if one comes first; the name of a paragraph is no word of loops
pub record IsBodyIn (words body : List Lexeme) : Type 0 where
  pub heading : List Lexeme
  pub named : IsHeading heading
  pub others : AllByRecursion IsOther heading
  pub words_are : words ≡ heading ++ body
  pub longest : (other more : List Lexeme) → IsHeading other → AllByRecursion IsOther other → 0 < length other → words ≡ other ++ more → body ≡ more

-- M1: the words behind the heading are no passage, and this is the line where it breaks off, or 1 where there are none
abbrev pub BreaksPassage : List Lexeme → ℕ → Type 0
BreaksPassage body line = ((body ≡ []) × (line ≡ 1)) ⊎ Breaks body line

-- M12: too many loops hold one another, or the loops of the passage come to too many statements
abbrev pub BreaksFew : List Lexeme → Type 0
BreaksFew body = (IsShallow body → ⊥) ⊎ ((p : Passage) × IsPassage p body × (IsFew p → ⊥))

-- one of these loops stands on this line, and an entry has the name of its counter
abbrev pub BreaksCounters : List Candidate → ℕ → List WrittenLoop → Type 0
BreaksCounters all line ls = SomeOf (λ l. (line ≡ l.line) × (IsNoEntry all l.counter → ⊥)) ls

-- The words behind the heading break a rule of passages on this line: they are none (M1), their loops come to too much (M12, on the line of the first), or a
-- loop's counter is that of another one, or an entry's (M11); refused memory has line 0.
abbrev pub IsPassageRefusal : MoveRule → ℕ → List Candidate → List Lexeme → Type 0
IsPassageRefusal rule.Grammar line all body = BreaksPassage body line
IsPassageRefusal rule.TooMany line all body = BreaksFew body × (line ≡ opening_line body)
IsPassageRefusal rule.Counter line all body = (p : Passage) × IsPassage p body × (Clashes [] p line ⊎ BreaksCounters all line (loops_of p))
IsPassageRefusal rule.Memory line all body = line ≡ 0
IsPassageRefusal other line all body = ⊥

-- M1: words are no statements, and the line is that of the first word where none stands
pub record BreaksRun (line : ℕ) (ws : List Lexeme) : Type 0 where
  pub none : (ss : List WrittenStatement) → Several IsEndedStatement ss ws → ⊥
  pub line_is : BreaksOff ws line

-- the words of a run, in a turn, break the rule: they are no statements; refused memory has line 0
abbrev pub IsRunRefusal : MoveRule → ℕ → List Lexeme → Type 0
IsRunRefusal rule.Grammar line ws = BreaksRun line ws
IsRunRefusal rule.Memory line ws = line ≡ 0
IsRunRefusal other line ws = ⊥

-- A run, in a turn, is no statements; or it is, and one of these breaks the rule of the fault on its line, or memory was refused.
abbrev pub RunIsRefused : MoveFault → List Candidate → Forest Resolved → Forest Resolved → List Lexeme → Type 0
RunIsRefused f all input output ws =
    IsRunRefusal f.rule f.line ws
    ⊎ ((ss : List WrittenStatement) × Several IsEndedStatement ss ws × SomeBroken f all input output ss)
