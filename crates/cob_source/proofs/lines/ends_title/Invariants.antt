use Rattle.std.proofs.Common.{◌≡◌, length}
use Rattle.std.specs.Prelude.{false}
use Rattle.cob_source.specs.Lines.{closes_title}
use Rattle.cob_source.proofs.lines.ends_title.Given as goal

abbrev pub invariant-loop-first : goal.invariant-loop-first
invariant-loop-first l = closes_title l.quote false l.bytes ≡ closes_title l.quote l.behind_quote l.rest

abbrev pub decreases-loop-first : goal.decreases-loop-first
decreases-loop-first l = length l.rest
