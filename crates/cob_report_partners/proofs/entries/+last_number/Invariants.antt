use Rattle.std.proofs.Common.{◌≡◌}
use Rattle.cob_copybook_tree.specs.Nodes.{node}
use Rattle.cob_layout_places.proofs.ForestLemmas.{left}
use Rattle.cob_report_partners.specs.Entries.{last_entry_number}
use Rattle.cob_report_partners.proofs.entries.+last_number.Given as goal

abbrev pub decreases-last_number : goal.decreases-last_number
decreases-last_number l = goal.size-last_number l

abbrev pub invariant-loop-child : goal.invariant-loop-child
invariant-loop-child l =
    last_entry_number l.last (left l.child-items l.child-index) ≡ last_entry_number (node l.entry).top.number (node l.entry).beneath
