use Rattle.std.proofs.Common.{length}
use Rattle.std.specs.List.{AllByRecursion}
use Rattle.cob_source.specs.Tokens.{lexemes}
use Rattle.cob_move_loops.specs.Words.{IsNoPeriod}
use Rattle.cob_move_loops.proofs.front.has_no_period.Given as goal

abbrev pub invariant-loop-first : goal.invariant-loop-first
invariant-loop-first l = record {
  yes : AllByRecursion IsNoPeriod (lexemes l.rest) → AllByRecursion IsNoPeriod (lexemes l.words);
  must : AllByRecursion IsNoPeriod (lexemes l.words) → AllByRecursion IsNoPeriod (lexemes l.rest);
}

abbrev pub decreases-loop-first : goal.decreases-loop-first
decreases-loop-first l = length (lexemes l.rest)
