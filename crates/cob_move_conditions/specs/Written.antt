-- Conditions as they are written.
use Rattle.std.specs.Prelude.{Bool}
use Rattle.cob_move_statements.specs.Written.{WrittenReference, WrittenSender, written_reference, written_sender}
use Rattle.cob_move_conditions.specs.declared.phrases.Quality.{Quality}
use Rattle.cob_move_conditions.specs.declared.relations.Relation.{Relation}
use Rattle.cob_move_conditions.specs.declared.phrases.TestPhrase.{TestPhrase}
use Rattle.cob_move_conditions.specs.declared.phrases.TestPhrase.TheVariants as test_phrase
use Rattle.cob_move_conditions.specs.declared.phrases.ConditionPhrase.{ConditionPhrase}
use Rattle.cob_move_conditions.specs.declared.phrases.ConditionPhrase.TheVariants as phrase

-- A simple condition: two operands and their relation; a relation to an operand, whose subject is left out; an operand alone, which is the name of a
-- condition or has both left out; an entry that is of a kind, or isn't.
pub data WrittenTest : Type 0 where
  Relates : WrittenSender → Relation → WrittenSender → WrittenTest
  RelatesTo : Relation → WrittenSender → WrittenTest
  StandsAlone : WrittenSender → WrittenTest
  Has : WrittenReference → Bool → Quality → WrittenTest

-- A condition: a simple one; one in brackets; one behind NOT; two with AND; two with OR.
pub data WrittenCondition : Type 0 where
  Simple : WrittenTest → WrittenCondition
  InBrackets : WrittenCondition → WrittenCondition
  BehindNot : WrittenCondition → WrittenCondition
  WithAnd : WrittenCondition → WrittenCondition → WrittenCondition
  WithOr : WrittenCondition → WrittenCondition → WrittenCondition

-- a simple condition, without where its texts lie in memory
abbrev pub written_test : TestPhrase → WrittenTest
written_test (test_phrase.Relates a r b) = Relates (written_sender a) r (written_sender b)
written_test (test_phrase.RelatesTo r b) = RelatesTo r (written_sender b)
written_test (test_phrase.StandsAlone a) = StandsAlone (written_sender a)
written_test (test_phrase.Has entry opposite quality) = Has (written_reference entry) opposite quality

-- a condition, likewise
abbrev pub written_condition : ConditionPhrase → WrittenCondition
written_condition (phrase.Simple t) = Simple (written_test t)
written_condition (phrase.InBrackets' p c) = InBrackets (written_condition c)
written_condition (phrase.BehindNot' p c) = BehindNot (written_condition c)
written_condition (phrase.WithAnd' p c q d) = WithAnd (written_condition c) (written_condition d)
written_condition (phrase.WithOr' p c q d) = WithOr (written_condition c) (written_condition d)
