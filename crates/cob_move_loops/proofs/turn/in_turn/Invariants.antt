use Rattle.std.proofs.Common.{◌≡◌, ◌++◌, false, length}
use Rattle.cob_source.specs.Tokens.{lexemes}
use Rattle.cob_move_loops.specs.Reading.{counters}
use Rattle.cob_move_loops.specs.Turns.{in_turn}
use Rattle.cob_move_loops.proofs.turn.in_turn.Given as goal

abbrev pub invariant-loop-first : goal.invariant-loop-first
invariant-loop-first l = lexemes l.out.items ++ in_turn (counters l.turn) l.inside 0 (lexemes l.rest) ≡ in_turn (counters l.turn) false 0 (lexemes l.words)

abbrev pub decreases-loop-first : goal.decreases-loop-first
decreases-loop-first l = length (lexemes l.rest)
