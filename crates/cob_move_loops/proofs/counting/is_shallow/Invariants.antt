use Rattle.std.proofs.Common.{length}
use Rattle.cob_source.specs.Tokens.{lexemes}
use Rattle.cob_move_loops.proofs.CountLemmas.{LeftToOpen}
use Rattle.cob_move_loops.proofs.counting.is_shallow.Given as goal

abbrev pub invariant-loop-first : goal.invariant-loop-first
invariant-loop-first l = LeftToOpen (lexemes l.words) (lexemes l.rest) l.loops l.ifs l.evaluates

abbrev pub decreases-loop-first : goal.decreases-loop-first
decreases-loop-first l = length (lexemes l.rest)
