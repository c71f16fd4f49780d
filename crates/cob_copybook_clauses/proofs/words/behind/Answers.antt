use Rattle.std.proofs.Common.{ap}
use Rattle.cob_source.specs.Tokens.{lexeme, lexemes}
use Rattle.cob_copybook_clauses.proofs.words.behind.Goals as goal

pub returns-then-is_term-clause-found : goal.returns-then-is_term-clause-found
returns-then-is_term-clause-found c = (lexeme c.in_ok-first.first.now, c.is_term.ensures.0 c.if-is_term.true, ap lexemes c.in_ok-first.ensures.cases.0)
