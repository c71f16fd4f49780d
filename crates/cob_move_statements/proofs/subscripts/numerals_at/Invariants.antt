use Rattle.std.proofs.Common.{length}
use Rattle.cob_source.specs.Tokens.{lexemes}
use Rattle.cob_copybook_clauses.specs.declared.term.WordClass.TheVariants as term
use Rattle.cob_move_statements.specs.Statements.{IsNumeral}
use Rattle.cob_copybook_clauses.specs.Reading.{NotFirstWord}
use Rattle.cob_move_loops.proofs.Fronts.{Front}
use Rattle.cob_move_statements.proofs.subscripts.numerals_at.Given as goal

abbrev pub invariant-loop-more : goal.invariant-loop-more
invariant-loop-more l = Front IsNumeral (NotFirstWord term.Plain) (lexemes l.words) (lexemes l.rest)

abbrev pub decreases-loop-more : goal.decreases-loop-more
decreases-loop-more l = length (lexemes l.rest)
