use Rattle.cob_source.specs.Tokens.{lexemes}
use Rattle.cob_move_loops.proofs.FrontLemmas.{others_first, others_more}
use Rattle.cob_move_loops.proofs.front.others_at.Goals as goal

pub loop-more-init : goal.loop-more-init
loop-more-init c = others_first (lexemes c.args.words.now)

pub loop-more-preserved : goal.loop-more-preserved
loop-more-preserved c = others_more (lexemes c.args.words.now) (lexemes c.loop-more.rest.now) (lexemes c.in-Some.more.now) c.loop-more.invariant c.in-Some.ensures.found
