use Rattle.std.proofs.Common.{ap, sym, ◌∙◌}
use Rattle.cob_source.specs.Tokens.{lexeme, lexemes}
use Rattle.cob_copybook_clauses.specs.Clauses.{figurative_of}
use Rattle.cob_copybook_clauses.proofs.constant.figurative_at.Goals as goal

pub returns-clause-found : goal.returns-clause-found
returns-clause-found c = (lexeme c.in_ok-first.first.now, ap figurative_of (sym c.word_class.ensures) ∙ sym c.figurative_of.ensures ∙ c.in_ok-figurative.was, ap lexemes c.in_ok-first.ensures.cases.0)
