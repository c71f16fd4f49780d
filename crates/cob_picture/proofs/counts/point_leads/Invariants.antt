use Rattle.std.proofs.Common.{◌≡◌, drop}
use Rattle.cob_picture.specs.Counts.{point_leads}
use Rattle.cob_picture.specs.declared.symbol.Run.{Run}
use Rattle.cob_picture.proofs.counts.point_leads.Given as goal

abbrev pub invariant-loop-run : goal.invariant-loop-run
invariant-loop-run l = point_leads (λ (r : Run). r.symbol) (drop l.run-index l.runs) ≡ point_leads (λ (r : Run). r.symbol) l.runs
