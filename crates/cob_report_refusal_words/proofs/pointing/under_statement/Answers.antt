use Rattle.std.proofs.Common.{ap}
use Rattle.cob_source.specs.Tokens.{lexeme, lexemes}
use Rattle.cob_report_refusal_words.proofs.Under.{under_end, under_first}
use Rattle.cob_report_refusal_words.proofs.pointing.under_statement.Goals as goal

pub returns-then-is_under : goal.returns-then-is_under
returns-then-is_under c =
    under_first (lexemes c.args.words.now) (lexeme c.in-Some.first.now) (lexemes c.in-Some.more.now) c.under-start.result (ap lexemes c.in-Some.ensures.cases.0) (c.under-start.ensures.line, c.under-start.ensures.column)

pub returns : goal.returns
returns c =
    under_end (lexemes c.args.words.now) (lexeme c.in-Some.first.now) (lexemes c.in-Some.more.now) c.under_later.result c.under-start.result (ap lexemes c.in-Some.ensures.cases.0)
    (c.under-start.ensures.line, c.under-start.ensures.column) c.under_later.ensures
