use Rattle.std.proofs.Common.{◌≡◌, ◌++◌, length, map}
use Rattle.cob_copybook_tree.specs.Nodes.{tree_of}
use Rattle.cob_layout_places.proofs.ForestLemmas.{left}
use Rattle.cob_layout_places.proofs.NeedLemmas.{AreUpTo}
use Rattle.cob_layout.specs.Sound.{AreNested}
use Rattle.cob_layout.specs.Ways.{held, held_in}
use Rattle.cob_layout.proofs.ways.+push_ways.Given as goal

abbrev pub decreases-push_ways : goal.decreases-push_ways
decreases-push_ways l = goal.size-push_ways l

abbrev pub invariant-loop-child : goal.invariant-loop-child
invariant-loop-child l =
    let rest = left l.child-items l.child-index in
    record {
      at : l.at ≡ l.child-index;
      numbered : AreUpTo l.end rest;
      nested : AreNested (length l.within.items) rest;
      same : map held l.ways.items ++ held_in l.within.items rest ≡ map held l.fn.ways.items ++ held_in l.fn.over (tree_of l.fn.entry);
    }
