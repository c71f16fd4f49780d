use Rattle.std.proofs.Common.{◌≡◌, ◌++◌, length, map}
use Rattle.cob_copybook_tree.specs.Nodes.{tree_of}
use Rattle.cob_layout_places.proofs.ForestLemmas.{left}
use Rattle.cob_layout.specs.Sound.{AreNested}
use Rattle.cob_report_show.specs.Elements.{named_item}
use Rattle.cob_report_compare.specs.Chosen.{compared_among, counts_of_tables}
use Rattle.cob_report_compare.proofs.chosen.+push_compared.Given as goal

abbrev pub decreases-push_compared : goal.decreases-push_compared
decreases-push_compared l = goal.size-push_compared l

abbrev pub invariant-loop-child : goal.invariant-loop-child
invariant-loop-child l =
    let rest = left l.child-items l.child-index in
    let counting = counts_of_tables l.choice.tables.now in
    record {
      nested : AreNested (length l.within.items) rest;
      same : map named_item l.items.items ++ compared_among l.choice.ignored.now counting l.exempt l.within.items rest
          ≡ map named_item l.fn.items.items ++ compared_among l.choice.ignored.now counting l.fn.exempt l.fn.over (tree_of l.fn.entry);
    }
