use Rattle.std.proofs.Common.{length}
use Rattle.cob_source.specs.Tokens.{lexemes}
use Rattle.cob_copybook_conditions.specs.Names.{plain_condition_names}
use Rattle.cob_copybook_conditions.proofs.Loops.{SoFar}
use Rattle.cob_copybook_conditions.proofs.reader.names_behind.Given as goal

abbrev pub invariant-loop-sentence : goal.invariant-loop-sentence
invariant-loop-sentence l = SoFar l.entry (lexemes l.words) (lexemes l.rest) l.last (plain_condition_names l.names.items)

abbrev pub decreases-loop-sentence : goal.decreases-loop-sentence
decreases-loop-sentence l = length l.rest
