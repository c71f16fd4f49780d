use Rattle.std.proofs.Common.{length}
use Rattle.cob_source.specs.Tokens.{lexemes}
use Rattle.cob_copybook_clauses.proofs.TableLemmas.{Named}
use Rattle.cob_copybook_clauses.proofs.qualifiers.skip_names.Given as goal

abbrev pub invariant-loop-more : goal.invariant-loop-more
invariant-loop-more l = Named (lexemes l.words) (lexemes l.rest)

abbrev pub decreases-loop-more : goal.decreases-loop-more
decreases-loop-more l = length (lexemes l.rest)
