-- What follows from the definitions, said as laws.
use Rattle.std.specs.Prelude.{◌≡◌, List}
use Rattle.cob_source.specs.Tokens.{Lexeme}
use Rattle.cob_copybook_names.specs.Naming.{Bearer}
use Rattle.cob_move_condition.specs.Conditions.{Condition}
use Rattle.cob_move_data.specs.Moves.{Records}
use Rattle.cob_move_loops.specs.Passages.{WrittenChoice}
use Rattle.cob_move_loops.specs.Turns.{Counted}
use Rattle.cob_move_names.specs.Valued.{ValuedEntry}
use Rattle.cob_move_statements.specs.declared.fault.MoveRule.{MoveRule}
use Rattle.cob_move_choices.specs.Choices.{Against, BreaksBranchTest, BreaksSubject, IsBranchTestOf, IsSubjectOf}

-- Law: the tests of a choice are held against one thing.
abbrev pub OneSubject : Type 0
OneSubject = (r : Records) (ns : List Counted) (c : WrittenChoice) (a b : Against) → IsSubjectOf r ns c a → IsSubjectOf r ns c b → a ≡ b

-- Law: the words of a test mean one condition in a turn.
abbrev pub OneBranchTest : Type 0
OneBranchTest = (r : Records) (values : List (Bearer ValuedEntry)) (ns : List Counted) (a : Against) (ws : List Lexeme) (c d : Condition) → IsBranchTestOf r values ns a ws c → IsBranchTestOf r values ns a ws d → c ≡ d

-- Law: what the tests of a choice may be held against breaks no rule.
abbrev pub SubjectsBreakNoRule : Type 0
SubjectsBreakNoRule = (rule : MoveRule) (r : Records) (ns : List Counted) (c : WrittenChoice) (a : Against) → IsSubjectOf r ns c a → BreaksSubject rule r ns c → ⊥

-- Law: words of a test that mean a condition break no rule.
abbrev pub BranchTestsBreakNoRule : Type 0
BranchTestsBreakNoRule = (rule : MoveRule) (r : Records) (values : List (Bearer ValuedEntry)) (ns : List Counted) (a : Against) (ws : List Lexeme) (c : Condition) → IsBranchTestOf r values ns a ws c → BreaksBranchTest rule r values ns a ws → ⊥
