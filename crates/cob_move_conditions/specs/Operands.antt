-- What is compared.
use Rattle.std.specs.Prelude.{List}
use Rattle.std.specs.List.{AllByRecursion}
use Rattle.cob_source.specs.Tokens.{Lexeme}
use Rattle.cob_move_statements.specs.Written.{WrittenSender}
use Rattle.cob_move_statements.specs.Statements.{IsWrittenSender}
use Rattle.cob_move_conditions.specs.Words.{IsNoConditionWord}

-- what is compared: a reference, or a literal or figurative constant, of which no word is one of conditions
abbrev pub IsWrittenOperand : WrittenSender → List Lexeme → Type 0
IsWrittenOperand s ws = IsWrittenSender s ws × AllByRecursion IsNoConditionWord ws
