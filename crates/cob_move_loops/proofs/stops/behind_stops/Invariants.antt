use Rattle.std.proofs.Common.{length}
use Rattle.cob_source.specs.Tokens.{lexemes}
use Rattle.cob_move_loops.specs.Words.{IsPeriod, NoPeriod}
use Rattle.cob_move_loops.proofs.Fronts.{Front}
use Rattle.cob_move_loops.proofs.stops.behind_stops.Given as goal

abbrev pub invariant-loop-more : goal.invariant-loop-more
invariant-loop-more l = Front IsPeriod NoPeriod (lexemes l.words) (lexemes l.rest)

abbrev pub decreases-loop-more : goal.decreases-loop-more
decreases-loop-more l = length (lexemes l.rest)
