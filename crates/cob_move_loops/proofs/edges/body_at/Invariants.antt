use Rattle.std.proofs.Common.{false, length}
use Rattle.cob_source.specs.Tokens.{lexemes}
use Rattle.cob_move_loops.proofs.FrontLemmas.{Opened}
use Rattle.cob_move_loops.proofs.edges.body_at.Given as goal

abbrev pub invariant-loop-first : goal.invariant-loop-first
invariant-loop-first l = Opened l.pair false (lexemes l.words) (lexemes l.rest) l.depth

abbrev pub decreases-loop-first : goal.decreases-loop-first
decreases-loop-first l = length (lexemes l.rest)
