use Rattle.std.proofs.Common.{length, map}
use Rattle.cob_source.specs.Tokens.{lexemes}
use Rattle.cob_copybook_conditions.specs.Names.{plain_span}
use Rattle.cob_copybook_conditions.proofs.SpanLemmas.{SoFar}
use Rattle.cob_copybook_conditions.proofs.spans.spans_of.Given as goal

abbrev pub invariant-loop-rest : goal.invariant-loop-rest
invariant-loop-rest l = SoFar (lexemes l.words) (lexemes l.rest) (map plain_span l.values.items)

abbrev pub decreases-loop-rest : goal.decreases-loop-rest
decreases-loop-rest l = length (lexemes l.rest)
