use Rattle.std.proofs.Common.{ap, sym}
use Rattle.cob_source.specs.Tokens.{lexeme, lexemes}
use Rattle.cob_copybook_clauses.proofs.words.free_at.Goals as goal

pub returns-clause-found : goal.returns-clause-found
returns-clause-found c = (lexeme c.in_ok-first.first.now, record { free = c.is_term.ensures.0 c.if-not-is_term.false; same = sym c.as_slice.ensures.value }, ap lexemes c.in_ok-first.ensures.cases.0)
