use Rattle.std.proofs.Common.{◌≡◌, ◌++◌, length, map}
use Rattle.cob_copybook_tree.specs.Nodes.{tree_of}
use Rattle.cob_layout_places.proofs.ForestLemmas.{left}
use Rattle.cob_layout.specs.Sound.{AreNested}
use Rattle.cob_report_show.specs.Elements.{named_item, named_in}
use Rattle.cob_report_show.proofs.named.+push_named.Given as goal

abbrev pub decreases-push_named : goal.decreases-push_named
decreases-push_named l = goal.size-push_named l

abbrev pub invariant-loop-child : goal.invariant-loop-child
invariant-loop-child l =
    let rest = left l.child-items l.child-index in
    record {
      nested : AreNested (length l.within.items) rest;
      same : map named_item l.items.items ++ named_in l.within.items rest ≡ map named_item l.fn.items.items ++ named_in l.fn.over (tree_of l.fn.entry);
    }
