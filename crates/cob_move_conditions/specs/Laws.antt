-- What follows from the definitions, said as a law.
use Rattle.std.specs.Prelude.{◌≡◌, List}
use Rattle.cob_source.specs.Tokens.{Lexeme}
use Rattle.cob_move_conditions.specs.Conditions.{IsWholeCondition}
use Rattle.cob_move_conditions.specs.Written.{WrittenCondition}

-- Law: words are one condition.
abbrev pub OneWrittenCondition : Type 0
OneWrittenCondition = (ws : List Lexeme) (c d : WrittenCondition) → IsWholeCondition c ws → IsWholeCondition d ws → c ≡ d
