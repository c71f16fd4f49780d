-- What follows from the definitions, said as laws.
use Rattle.std.specs.Prelude.{◌≡◌, List}
use Rattle.cob_move_condition.specs.Conditions.{Condition}
use Rattle.cob_copybook_names.specs.Naming.{Bearer}
use Rattle.cob_move_data.specs.Moves.{Records}
use Rattle.cob_move_names.specs.Valued.{ValuedEntry}
use Rattle.cob_move_statements.specs.declared.fault.MoveRule.{MoveRule}
use Rattle.cob_source.specs.Tokens.{Lexeme}
use Rattle.cob_move_tests.specs.Broken.{BreaksConditionWords}
use Rattle.cob_move_tests.specs.Meant.{IsConditionOf}

-- Law: words mean one condition.
abbrev pub OneConditionOf : Type 0
OneConditionOf = (r : Records) (values : List (Bearer ValuedEntry)) (ws : List Lexeme) (c d : Condition) → IsConditionOf r values ws c → IsConditionOf r values ws d → c ≡ d

-- Law: words that mean a condition break no rule.
abbrev pub ConditionsBreakNoRule : Type 0
ConditionsBreakNoRule = (rule : MoveRule) (r : Records) (values : List (Bearer ValuedEntry)) (ws : List Lexeme) (c : Condition) → IsConditionOf r values ws c → BreaksConditionWords rule r values ws → ⊥
