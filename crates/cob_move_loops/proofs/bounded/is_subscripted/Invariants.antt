use Rattle.std.proofs.Common.{◌≡◌, false, length}
use Rattle.cob_source.specs.Tokens.{lexemes}
use Rattle.cob_move_loops.specs.Bounded.{is_subscripted}
use Rattle.cob_move_loops.proofs.bounded.is_subscripted.Given as goal

abbrev pub invariant-loop-first : goal.invariant-loop-first
invariant-loop-first l = is_subscripted l.name l.inside (lexemes l.rest) ≡ is_subscripted l.name false (lexemes l.words)

abbrev pub decreases-loop-first : goal.decreases-loop-first
decreases-loop-first l = length (lexemes l.rest)
