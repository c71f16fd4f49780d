use Rattle.std.proofs.Common.{length}
use Rattle.cob_source.specs.Tokens.{lexemes}
use Rattle.cob_move_statements.specs.Written.{written_references}
use Rattle.cob_move_statements.specs.Statements.{EndsReferences, IsReference}
use Rattle.cob_move_statements.proofs.Runs.{SoFar}
use Rattle.cob_move_statements.proofs.references.references_at.Given as goal

abbrev pub invariant-loop-reference : goal.invariant-loop-reference
invariant-loop-reference l = SoFar IsReference EndsReferences (lexemes l.words) (lexemes l.rest) (written_references l.references.items)

abbrev pub decreases-loop-reference : goal.decreases-loop-reference
decreases-loop-reference l = length (lexemes l.rest)
