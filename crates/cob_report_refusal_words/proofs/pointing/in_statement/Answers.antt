use Rattle.cob_source.specs.Tokens.{lexemes}
use Rattle.cob_report_refusal_words.proofs.Under.{under_there}
use Rattle.cob_report_refusal_words.proofs.pointing.in_statement.Goals as goal

pub returns : goal.returns
returns c =
    under_there c.args.refusal.now (lexemes c.args.words.now) (lexemes c.behind_count-own.result.now) c.saturating_sub.result c.under_statement.result c.behind_count-own.ensures
    (c.begin_there.ensures c.if-not-begin_there.false) c.under_statement.ensures
