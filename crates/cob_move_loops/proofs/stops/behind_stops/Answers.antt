use Rattle.cob_source.specs.Tokens.{lexemes}
use Rattle.cob_move_loops.specs.Words.{IsPeriod, NoPeriod}
use Rattle.cob_move_loops.proofs.FrontLemmas.{no_stop}
use Rattle.cob_move_loops.proofs.Fronts.{begins, goes, ends}
use Rattle.cob_move_loops.proofs.stops.behind_stops.Goals as goal

pub loop-more-init : goal.loop-more-init
loop-more-init c = begins IsPeriod NoPeriod (lexemes c.args.words.now)

pub loop-more-preserved : goal.loop-more-preserved
loop-more-preserved c = goes IsPeriod NoPeriod (λ w more is none. none is) (lexemes c.args.words.now) (lexemes c.loop-more.rest.now) (lexemes c.in-Some.more.now) c.loop-more.invariant c.in-Some.ensures.found

pub returns-clause-found : goal.returns-clause-found
returns-clause-found c = (c.loop-more.invariant.done, c.loop-more.invariant.are, c.loop-more.invariant.words_are)

pub returns-clause-only : goal.returns-clause-only
returns-clause-only c = λ stops more are none e.
    (ends IsPeriod NoPeriod (lexemes c.args.words.now) (lexemes c.loop-more.rest.now) c.loop-more.invariant c.in_default.ensures.only stops more are none e).1

pub returns-clause-none : goal.returns-clause-none
returns-clause-none c = no_stop (lexemes c.loop-more.rest.now) c.in_default.ensures.only
