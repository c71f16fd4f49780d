use Rattle.std.proofs.Common.{◌≡◌, ◌+◌, ◌≤◌, length}
use Rattle.cob_source.specs.Tokens.{lexemes}
use Rattle.cob_move_loops.specs.Few.{statements_in}
use Rattle.cob_limits.specs.Limits.{most_written_out}
use Rattle.cob_move_loops.proofs.counting.statements_in.Given as goal

abbrev pub invariant-loop-first : goal.invariant-loop-first
invariant-loop-first l = record {
  so : l.count + statements_in (lexemes l.rest) ≡ statements_in (lexemes l.words);
  most : l.count ≤ most_written_out;
}

abbrev pub decreases-loop-first : goal.decreases-loop-first
decreases-loop-first l = length (lexemes l.rest)
