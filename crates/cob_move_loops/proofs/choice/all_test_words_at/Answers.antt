use Rattle.cob_source.specs.Tokens.{lexemes}
use Rattle.cob_move_loops.specs.Words.{IsTestWord, NoTestWord}
use Rattle.cob_move_loops.proofs.Fronts.{begins, goes}
use Rattle.cob_move_loops.proofs.choice.all_test_words_at.Goals as goal

pub loop-more-init : goal.loop-more-init
loop-more-init c = begins IsTestWord NoTestWord (lexemes c.args.words.now)

pub loop-more-preserved : goal.loop-more-preserved
loop-more-preserved c =
    goes IsTestWord NoTestWord (λ w more is none. none is) (lexemes c.args.words.now) (lexemes c.loop-more.rest.now) (lexemes c.in-Some.more.now) c.loop-more.invariant c.in-Some.ensures.found
