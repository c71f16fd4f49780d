use Rattle.std.proofs.Common.{length}
use Rattle.std.specs.List.{AllByRecursion}
use Rattle.cob_source.specs.Tokens.{lexemes}
use Rattle.cob_move_conditions.specs.Words.{IsNoConditionWord}
use Rattle.cob_move_conditions.proofs.operands.has_no_condition_word.Given as goal

abbrev pub invariant-loop-first : goal.invariant-loop-first
invariant-loop-first l = record {
  yes : AllByRecursion IsNoConditionWord (lexemes l.rest) → AllByRecursion IsNoConditionWord (lexemes l.words);
  must : AllByRecursion IsNoConditionWord (lexemes l.words) → AllByRecursion IsNoConditionWord (lexemes l.rest);
}

abbrev pub decreases-loop-first : goal.decreases-loop-first
decreases-loop-first l = length (lexemes l.rest)
