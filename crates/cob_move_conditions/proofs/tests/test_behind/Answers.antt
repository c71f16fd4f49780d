use Rattle.cob_source.specs.Tokens.{lexemes}
use Rattle.cob_move_statements.specs.Written.{written_sender}
use Rattle.cob_move_conditions.specs.Written.{written_test}
use Rattle.cob_move_conditions.proofs.TestLemmas.{by_none, by_quality, by_related}
use Rattle.cob_move_conditions.proofs.tests.test_behind.Goals as goal

pub returns-in-Some-clause-only : goal.returns-in-Some-clause-only
returns-in-Some-clause-only c = λ t ws more is ends cut.
    by_related (lexemes c.args.words.now) (written_sender c.args.first) (written_sender c.in-Some.second) c.in-Some.relation (lexemes c.in-Some.more.now) c.in-Some.ensures.found c.in-Some.ensures.only t ws more is ends cut

pub returns-in-Some-with_quality-clause-only : goal.returns-in-Some-with_quality-clause-only
returns-in-Some-with_quality-clause-only c = λ t ws more is ends cut.
    by_quality (lexemes c.args.words.now) (written_sender c.args.first) (written_test c.in-Some-with_quality.test) (lexemes c.in-Some-with_quality.more.now) c.in_default.ensures.only c.in-Some-with_quality.ensures.found
    c.in-Some-with_quality.ensures.only t ws more is ends cut

pub returns-clause-only : goal.returns-clause-only
returns-clause-only c = λ t ws more is ends cut.
    by_none (lexemes c.args.words.now) (written_sender c.args.first) c.in_default.ensures.only c.in_default-with_quality.ensures.only t ws more is ends cut
