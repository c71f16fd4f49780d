use Rattle.std.proofs.Common.{◌≡◌}
use Rattle.cob_layout_places.specs.Needs.{number_behind}
use Rattle.cob_layout_places.proofs.ForestLemmas.{left, below}
use Rattle.cob_layout_places.proofs.NeedLemmas.{AreUpTo}
use Rattle.cob_layout_places.proofs.needs.+number_behind.Given as goal

abbrev pub decreases-number_behind : goal.decreases-number_behind
decreases-number_behind l = goal.size-number_behind l

abbrev pub invariant-loop-child : goal.invariant-loop-child
invariant-loop-child l =
    let rest = left l.child-items l.child-index in
    record {
      at : l.at ≡ l.child-index;
      same : number_behind l.tables l.number (below l.entry) ≡ number_behind l.tables l.number rest;
      numbered : AreUpTo l.end rest;
    }
