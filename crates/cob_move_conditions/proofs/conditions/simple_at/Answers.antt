use Rattle.cob_source.specs.Tokens.{lexemes}
use Rattle.cob_move_conditions.specs.Written.{written_test}
use Rattle.cob_move_conditions.proofs.ConditionLemmas.{begin_stands, by_simple, no_simple}
use Rattle.cob_move_conditions.proofs.conditions.simple_at.Goals as goal

pub returns-in_err-test-clause-only : goal.returns-in_err-test-clause-only
returns-in_err-test-clause-only c = λ d ws more is ends cut. absurd (no_simple (lexemes c.args.words.now) c.requires c.in_err-test.ensures.only d ws more is ends cut)

pub returns-clause-found : goal.returns-clause-found
returns-clause-found c = let (own, is, e) = c.in_ok-test.ensures.found in (own, begin_stands (written_test c.in_ok-test.test) own is, e)

pub returns-clause-only : goal.returns-clause-only
returns-clause-only c = λ d ws more is ends cut.
    by_simple (lexemes c.args.words.now) c.requires (written_test c.in_ok-test.test) (lexemes c.in_ok-test.more.now) c.in_ok-test.ensures.only d ws more is ends cut
