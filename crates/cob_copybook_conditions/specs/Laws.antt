-- What follows from the definitions, said as laws.
use Rattle.std.specs.Prelude.{◌≡◌, ℕ, List}
use Rattle.cob_copybook_conditions.specs.Names.{PlainConditionName, AreConditionNamesOf}

-- law: a text has one list of condition-names at most
abbrev pub OneListOfConditionNames : Type 0
OneListOfConditionNames = (text : List ℕ) (ns ms : List PlainConditionName) → AreConditionNamesOf text ns → AreConditionNamesOf text ms → ns ≡ ms
