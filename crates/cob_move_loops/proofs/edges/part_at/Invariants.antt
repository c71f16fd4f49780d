use Rattle.std.proofs.Common.{length, true}
use Rattle.cob_source.specs.Tokens.{lexemes}
use Rattle.cob_move_loops.specs.declared.edges.Pair.TheVariants as pair
use Rattle.cob_move_loops.proofs.FrontLemmas.{Opened}
use Rattle.cob_move_loops.proofs.edges.part_at.Given as goal

abbrev pub invariant-loop-first : goal.invariant-loop-first
invariant-loop-first l = Opened (pair.Choice l.kind) true (lexemes l.words) (lexemes l.rest) l.depth

abbrev pub decreases-loop-first : goal.decreases-loop-first
decreases-loop-first l = length (lexemes l.rest)
