use Rattle.std.proofs.Common.{ap}
use Rattle.cob_source.specs.Tokens.{lexeme, lexemes}
use Rattle.cob_move_statements.proofs.ReferenceLemmas.{found_in, only_in}
use Rattle.cob_move_statements.proofs.subscripts.subscripts_at.Goals as goal

pub returns-in-Some-clause-found : goal.returns-in-Some-clause-found
returns-in-Some-clause-found c = found_in (lexemes c.args.words.now) c.bracketed_at.result c.bracketed_at.ensures.found

pub returns-in-Some-clause-only : goal.returns-in-Some-clause-only
returns-in-Some-clause-only c =
    only_in (lexemes c.args.words.now) (lexemes c.in-Some.field-0-1.now) (lexeme c.in-Some.first.now) c.bracketed_at.result (ap lexemes c.in-Some.ensures.cases.0) (c.is_term.ensures.0 c.if-is_term.true) c.bracketed_at.ensures.only
