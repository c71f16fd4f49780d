use Rattle.std.proofs.Common.{◌≡◌, false, length}
use Rattle.cob_source.specs.Tokens.{lexemes}
use Rattle.cob_move_loops.specs.Reading.{counters}
use Rattle.cob_move_tests.specs.Counters.{has_no_counter}
use Rattle.cob_move_tests.proofs.counters.has_no_counter.Given as goal

abbrev pub invariant-loop-first : goal.invariant-loop-first
invariant-loop-first l = has_no_counter (counters l.turn) false false (lexemes l.words) ≡ has_no_counter (counters l.turn) l.inside l.named (lexemes l.rest)

abbrev pub decreases-loop-first : goal.decreases-loop-first
decreases-loop-first l = length (lexemes l.rest)
