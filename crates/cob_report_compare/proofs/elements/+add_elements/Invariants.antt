-- The elements so far were told, and the reference is as it was.
use Rattle.std.proofs.Common.{◌≡◌, length}
use Rattle.cob_report_show.specs.Elements.{named_item}
use Rattle.cob_report_compare.specs.Differences.{AddsDifference, AreToldInTurn, shared_times}
use Rattle.cob_report_compare.specs.Equal.{printed_of}
use Rattle.cob_report_compare.proofs.ToldLemmas.{inner_told}
use Rattle.cob_report_compare.proofs.elements.+add_elements.Given as goal

abbrev pub decreases-add_elements : goal.decreases-add_elements
decreases-add_elements l = length l.tables.now

abbrev pub invariant-loop-earlier : goal.invariant-loop-earlier
invariant-loop-earlier l =
    let one = printed_of l.left in
    let other = printed_of l.right in
    record {
      node : l.reference.node ≡ l.fn.reference.node;
      same : l.reference.subscripts.items ≡ l.fn.reference.subscripts.items;
      so_far : AddsDifference (AreToldInTurn (inner_told one other (named_item l.item) (shared_times one other l.inner) l.fn.reference.subscripts.items) l.earlier) l.fn.told l.told;
    }
