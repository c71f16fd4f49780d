use Rattle.std.proofs.Common.{◌≡◌, drop}
use Rattle.cob_layout.specs.Finding.{are_met}
use Rattle.cob_layout.proofs.finding.are_met.Given as goal

abbrev pub invariant-loop-index : goal.invariant-loop-index
invariant-loop-index l = record {
  same : are_met l.needed.behind l.needed.last l.needed.number l.counts (drop l.index l.tables) (drop l.index l.kept)
      ≡ are_met l.needed.behind l.needed.last l.needed.number l.counts l.tables l.kept;
}
