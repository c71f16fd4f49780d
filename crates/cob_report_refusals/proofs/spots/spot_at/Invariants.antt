use Rattle.std.proofs.Common.{length}
use Rattle.cob_source.specs.Tokens.{lexemes}
use Rattle.cob_report_refusals.specs.Refused.{StandsIn}
use Rattle.cob_report_refusals.specs.declared.spots.Spot.{Spot}
use Rattle.cob_report_refusals.proofs.spots.spot_at.Given as goal

abbrev pub invariant-loop-first : goal.invariant-loop-first
invariant-loop-first l = (s : Spot) → StandsIn s (lexemes l.rest) → StandsIn s (lexemes l.words)

abbrev pub decreases-loop-first : goal.decreases-loop-first
decreases-loop-first l = length l.rest
