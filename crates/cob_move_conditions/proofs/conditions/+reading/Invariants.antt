use Rattle.std.proofs.Common.{◌≤◌, ◌+◌, ◌*◌, length}
use Rattle.cob_source.specs.Tokens.{lexemes}
use Rattle.cob_move_conditions.specs.Conditions.{ByAnd, ByNot, ByOr}
use Rattle.cob_move_conditions.specs.declared.words.ConditionWord.TheVariants as word
use Rattle.cob_move_conditions.specs.Written.{WithAnd, WithOr, written_condition}
use Rattle.cob_move_conditions.proofs.ConditionLemmas.{SoFar}
use Rattle.cob_move_conditions.proofs.conditions.+reading.Given as goal

abbrev pub decreases-single_at : goal.decreases-single_at
decreases-single_at l = 4 * length (lexemes l.words.now)

abbrev pub decreases-negated_at : goal.decreases-negated_at
decreases-negated_at l = 4 * length (lexemes l.words.now) + 1

abbrev pub decreases-conjunction_at : goal.decreases-conjunction_at
decreases-conjunction_at l = 4 * length (lexemes l.words.now) + 2

abbrev pub decreases-condition_at : goal.decreases-condition_at
decreases-condition_at l = 4 * length (lexemes l.words.now) + 3

abbrev pub invariant-conjunction_at-loop-own : goal.invariant-conjunction_at-loop-own
invariant-conjunction_at-loop-own l = record {
  so : SoFar ByNot ByAnd word.And WithAnd (lexemes l.words) (lexemes l.rest) (written_condition l.joined);
  fewer : length (lexemes l.rest) ≤ length (lexemes l.words);
}

abbrev pub decreases-conjunction_at-loop-own : goal.decreases-conjunction_at-loop-own
decreases-conjunction_at-loop-own l = length (lexemes l.rest)

abbrev pub invariant-condition_at-loop-own : goal.invariant-condition_at-loop-own
invariant-condition_at-loop-own l = record {
  so : SoFar ByAnd ByOr word.Or WithOr (lexemes l.words) (lexemes l.rest) (written_condition l.joined);
  fewer : length (lexemes l.rest) ≤ length (lexemes l.words);
}

abbrev pub decreases-condition_at-loop-own : goal.decreases-condition_at-loop-own
decreases-condition_at-loop-own l = length (lexemes l.rest)
