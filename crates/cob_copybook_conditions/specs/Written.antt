-- Condition-names as they are written.
use Rattle.std.specs.Prelude.{ℕ, List}
use Rattle.cob_copybook_clauses.specs.Written.{WrittenValue}

-- one value of a condition-name, or all from one to another
pub data WrittenSpan : Type 0 where
  One : WrittenValue → WrittenSpan
  FromTo : WrittenValue → WrittenValue → WrittenSpan

-- a condition-name: its name, and its values in order
pub record WrittenConditionName : Type 0 where
  pub name : List ℕ
  pub values : List WrittenSpan
