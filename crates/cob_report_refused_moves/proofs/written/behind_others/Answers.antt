use Rattle.std.proofs.Common.{ap}
use Rattle.cob_source.specs.Tokens.{lexemes}
use Rattle.cob_move.proofs.LoopLemmas.{none_in, not_true}
use Rattle.cob_report_refused_moves.proofs.Cutting.{begins, ends_none, goes}
use Rattle.cob_report_refused_moves.proofs.written.behind_others.Goals as goal

pub loop-more-init : goal.loop-more-init
loop-more-init c = begins (lexemes c.args.words.now)

pub loop-more-preserved : goal.loop-more-preserved
loop-more-preserved c =
    goes (lexemes c.args.words.now) (lexemes c.loop-more.rest.now) _ (lexemes c.in-Some.more.now) c.loop-more.invariant (ap lexemes c.in-Some.ensures.cases.0)
    (λ h. not_true c.ends.result c.if-ends.false (c.ends.ensures.1 h))

pub returns-then-ends-clause-found : goal.returns-then-ends-clause-found
returns-then-ends-clause-found c = (c.loop-more.invariant.done, c.loop-more.invariant.are, c.loop-more.invariant.words_are)

pub returns-clause-found : goal.returns-clause-found
returns-clause-found c = (c.loop-more.invariant.done, c.loop-more.invariant.are, c.loop-more.invariant.words_are)

pub returns-clause-ends : goal.returns-clause-ends
returns-clause-ends c = ends_none (lexemes c.loop-more.rest.now) (ap lexemes (none_in c.loop-more.rest.now c.in_default.ensures.cases))
