use Rattle.std.proofs.Common.{sym, ap, ◌∙◌}
use Rattle.cob_source.specs.Tokens.{lexeme, lexemes}
use Rattle.cob_move_loops.proofs.front.behind_other.Goals as goal

pub returns-in-None-clause-found : goal.returns-in-None-clause-found
returns-in-None-clause-found c = (lexeme c.in_ok-first.first.now, sym c.passage_word.ensures ∙ c.in-None.is, ap lexemes c.in_ok-first.ensures.cases.0)
