use Rattle.std.proofs.Common.{ap, sym}
use Rattle.cob_source.specs.Tokens.{lexemes}
use Rattle.cob_move_statements.specs.Written.{written_reference, written_sender}
use Rattle.cob_move_conditions.proofs.TestLemmas.{no_quality_of, one_quality_of}
use Rattle.cob_move_conditions.proofs.tests.with_quality.Goals as goal

pub returns-in_err-opposite-clause-only : goal.returns-in_err-opposite-clause-only
returns-in_err-opposite-clause-only c = λ t ws more is cut. absurd (no_quality_of (written_sender c.args.first) (lexemes c.args.words.now) c.in_err-opposite.ensures.only t ws more is cut)

pub returns-clause-only : goal.returns-clause-only
returns-clause-only c = λ t ws more is cut.
    one_quality_of (written_sender c.args.first) (written_reference c.in-Reference.entry) c.in_ok-opposite.opposite c.in_ok-opposite.quality (lexemes c.args.words.now) (lexemes c.in_ok-opposite.more.now)
    (ap written_sender (sym c.in-Reference.is)) c.in_ok-opposite.ensures.only t ws more is cut
