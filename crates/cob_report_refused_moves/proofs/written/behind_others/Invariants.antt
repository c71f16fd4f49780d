use Rattle.std.proofs.Common.{length}
use Rattle.cob_source.specs.Tokens.{lexemes}
use Rattle.cob_report_refused_moves.proofs.Cutting.{GoneOn}
use Rattle.cob_report_refused_moves.proofs.written.behind_others.Given as goal

abbrev pub invariant-loop-more : goal.invariant-loop-more
invariant-loop-more l = GoneOn (lexemes l.words) (lexemes l.rest)

abbrev pub decreases-loop-more : goal.decreases-loop-more
decreases-loop-more l = length (lexemes l.rest)
