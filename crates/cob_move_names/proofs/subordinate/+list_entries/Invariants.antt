use Rattle.std.proofs.Common.{◌≡◌, ◌++◌, drop}
use Rattle.cob_copybook_names.specs.Listed.{texts}
use Rattle.cob_copybook_tree.specs.Nodes.{forest}
use Rattle.cob_move_names.specs.Pairs.{subordinates}
use Rattle.cob_move_names.specs.PlainPairs.{subordinates_listed}
use Rattle.cob_move_names.proofs.subordinate.+list_entries.Given as goal

abbrev pub decreases-list_entries : goal.decreases-list_entries
decreases-list_entries l = goal.size-list_entries l

abbrev pub invariant-loop-entry : goal.invariant-loop-entry
invariant-loop-entry l =
    subordinates_listed l.fn.list.items ++ subordinates (texts l.between.value.items) (forest l.entries) ≡ subordinates_listed l.list.items ++ subordinates (texts l.between.value.items) (forest (drop l.entry-index l.entries))
