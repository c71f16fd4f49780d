use Rattle.std.proofs.Common.{sym, ap}
use Rattle.cob_source.specs.Tokens.{lexeme, lexemes}
use Rattle.cob_move_loops.proofs.head.counter_at.Goals as goal

pub returns-clause-found : goal.returns-clause-found
returns-clause-found c =
    let is = c.is_counter.ensures.0 c.if-not-is_counter.false in
    (lexeme c.in_ok-first.first.now, record { named = is.0; other = is.1; same = sym c.as_slice.ensures.value }, ap lexemes c.in_ok-first.ensures.cases.0)
