use Rattle.std.proofs.Common.{◌≡◌, ◌+◌, ◌≤◌, drop}
use Rattle.cob_copybook_tree.specs.Forests.{entries_in}
use Rattle.cob_copybook_tree.specs.Branches.{forest_of}
use Rattle.cob_copybook_tree.specs.Nodes.{forest}
use Rattle.cob_copybook_tree.specs.Resolving.{resolved}
use Rattle.cob_copybook_tree.proofs.NodeLemmas.{beside}
use Rattle.cob_copybook_tree.proofs.resolving.+numbered.Given as goal

abbrev pub decreases-numbered : goal.decreases-numbered
decreases-numbered l = goal.size-numbered l

abbrev pub invariant-loop-child : goal.invariant-loop-child
invariant-loop-child l =
    let rest = forest_of (drop l.child-index l.child-items) in
    record {
      rows : beside (forest l.children.items) (resolved l.counts l.next l.own.usage l.own.sign rest) ≡ resolved l.counts (l.number + 1) l.own.usage l.own.sign (forest_of l.child-items);
      next : l.next + entries_in rest ≡ l.number + 1 + entries_in (forest_of l.child-items);
      few : l.number + 1 + entries_in (forest_of l.child-items) ≤ 65535;
    }
