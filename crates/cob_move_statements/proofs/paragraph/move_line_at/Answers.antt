use Rattle.std.proofs.Common.{ap, refl}
use Rattle.cob_source.specs.Tokens.{lexeme, lexemes}
use Rattle.cob_move_statements.proofs.paragraph.move_line_at.Goals as goal

pub returns-clause-found : goal.returns-clause-found
returns-clause-found c = (lexeme c.in_ok-first.first.now, c.is_term.ensures.0 c.if-not-is_term.false, refl, ap lexemes c.in_ok-first.ensures.cases.0)
