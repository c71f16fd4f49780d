use Rattle.std.proofs.Common.{◌≡◌, ◌++◌, map, length}
use Rattle.cob_source.specs.Tokens.{lexemes}
use Rattle.cob_source_copies.specs.Libraries.{on_line}
use Rattle.cob_source_copies.proofs.adding.counted_on.Given as goal

abbrev pub invariant-loop-first : goal.invariant-loop-first
invariant-loop-first l = lexemes l.out.items ++ map (on_line l.lines) (lexemes l.rest) ≡ map (on_line l.lines) (lexemes l.words)

abbrev pub decreases-loop-first : goal.decreases-loop-first
decreases-loop-first l = length l.rest
