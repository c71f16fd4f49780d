use Rattle.std.proofs.Common.{length}
use Rattle.cob_source.specs.Tokens.{lexemes}
use Rattle.cob_move_statements.specs.Written.{written_statements}
use Rattle.cob_move_statements.proofs.ParagraphLemmas.{ReadSoFar}
use Rattle.cob_move_statements.proofs.paragraph.ended_statements.Given as goal

abbrev pub invariant-loop-rest : goal.invariant-loop-rest
invariant-loop-rest l = ReadSoFar (lexemes l.words) (lexemes l.rest) (written_statements l.statements.items)

abbrev pub decreases-loop-rest : goal.decreases-loop-rest
decreases-loop-rest l = length (lexemes l.rest)
