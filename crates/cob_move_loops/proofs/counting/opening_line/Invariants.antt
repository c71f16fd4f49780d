use Rattle.std.proofs.Common.{◌≡◌, length}
use Rattle.cob_source.specs.Tokens.{lexemes}
use Rattle.cob_move_loops.specs.Few.{opening_line}
use Rattle.cob_move_loops.proofs.counting.opening_line.Given as goal

abbrev pub invariant-loop-first : goal.invariant-loop-first
invariant-loop-first l = opening_line (lexemes l.rest) ≡ opening_line (lexemes l.words)

abbrev pub decreases-loop-first : goal.decreases-loop-first
decreases-loop-first l = length (lexemes l.rest)
