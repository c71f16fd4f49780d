use Rattle.std.proofs.Common.{length}
use Rattle.cob_source.specs.Tokens.{lexemes}
use Rattle.cob_move_loops.specs.Words.{IsTestWord, NoTestWord}
use Rattle.cob_move_loops.proofs.Fronts.{Front}
use Rattle.cob_move_loops.proofs.choice.all_test_words_at.Given as goal

abbrev pub invariant-loop-more : goal.invariant-loop-more
invariant-loop-more l = Front IsTestWord NoTestWord (lexemes l.words) (lexemes l.rest)

abbrev pub decreases-loop-more : goal.decreases-loop-more
decreases-loop-more l = length (lexemes l.rest)
