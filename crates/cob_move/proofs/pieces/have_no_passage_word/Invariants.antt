use Rattle.std.proofs.Common.{length}
use Rattle.std.specs.List.{AllByRecursion}
use Rattle.cob_source.specs.Tokens.{lexemes}
use Rattle.cob_move_loops.specs.Words.{IsOther}
use Rattle.cob_move.proofs.pieces.have_no_passage_word.Given as goal

abbrev pub invariant-loop-first : goal.invariant-loop-first
invariant-loop-first l = record {
  yes : AllByRecursion IsOther (lexemes l.rest) → AllByRecursion IsOther (lexemes l.words);
  must : AllByRecursion IsOther (lexemes l.words) → AllByRecursion IsOther (lexemes l.rest);
}

abbrev pub decreases-loop-first : goal.decreases-loop-first
decreases-loop-first l = length (lexemes l.rest)
