-- The items so far were told, and the elements of those that are left stand in both records.
use Rattle.std.proofs.Common.{drop, map}
use Rattle.cob_report_show.specs.Elements.{named_item}
use Rattle.cob_report_compare.specs.Equal.{printed_of}
use Rattle.cob_report_compare.specs.Shared.{ItemsShared}
use Rattle.cob_report_compare.proofs.AddLemmas.{ItemsSoFar}
use Rattle.cob_report_compare.proofs.elements.add_items.Given as goal

abbrev pub invariant-loop-item : goal.invariant-loop-item
invariant-loop-item l =
    let left = map named_item (drop l.item-index l.items) in
    record {
      shared : ItemsShared (printed_of l.left) (printed_of l.right) left;
      so_far : ItemsSoFar (printed_of l.left) (printed_of l.right) (map named_item l.items) left l.fn.told l.told;
    }
