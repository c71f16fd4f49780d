use Rattle.std.proofs.Common.{rules, ap, sym, ◌∷◌, []}
use Rattle.cob_source.specs.Tokens.{lexeme, lexemes}
use Rattle.cob_copybook_clauses.proofs.entry.name_at.Goals as goal

pub returns-then-is_term-clause-found : goal.returns-then-is_term-clause-found
returns-then-is_term-clause-found c = (lexeme c.in-Some.first.now ∷ [], c.is_term.ensures.0 c.if-is_term.true, ap lexemes c.in-Some.ensures.cases.0)

pub returns-clause-found : goal.returns-clause-found
returns-clause-found c = (lexeme c.in-Some.first.now ∷ [], (record { word = c.is_word.ensures.0 c.if-not-is_word.false; same = sym c.as_slice.ensures.value }, search rules, search rules), ap lexemes c.in-Some.ensures.cases.0)
