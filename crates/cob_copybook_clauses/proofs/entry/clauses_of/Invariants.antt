use Rattle.std.proofs.Common.{length}
use Rattle.cob_source.specs.Tokens.{lexemes}
use Rattle.cob_copybook_clauses.specs.Entries.{bare}
use Rattle.cob_copybook_clauses.specs.Written.{written_clauses}
use Rattle.cob_copybook_clauses.proofs.EntryLemmas.{SoFar}
use Rattle.cob_copybook_clauses.proofs.entry.clauses_of.Given as goal

abbrev pub invariant-loop-rest : goal.invariant-loop-rest
invariant-loop-rest l = SoFar (lexemes l.words) (lexemes l.rest) bare (written_clauses l.clauses)

abbrev pub decreases-loop-rest : goal.decreases-loop-rest
decreases-loop-rest l = length (lexemes l.rest)
