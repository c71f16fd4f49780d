use Rattle.std.proofs.Common.{◌≡◌, ◌++◌, map, length}
use Rattle.cob_copybook_entry.specs.Described.{plain_entry}
use Rattle.cob_copybook_tree.specs.Forests.{flat, IsTree}
use Rattle.cob_copybook_tree.specs.Branches.{forest_of, level_of}
use Rattle.cob_copybook_tree.proofs.planting.side_by_side.Given as goal

abbrev pub invariant-loop-entry : goal.invariant-loop-entry
invariant-loop-entry l = record {
  entries : map plain_entry l.fn.entries.items ≡ map plain_entry l.entries.items ++ flat (forest_of l.pending.items);
  tree : IsTree level_of (forest_of l.pending.items);
}

abbrev pub decreases-loop-entry : goal.decreases-loop-entry
decreases-loop-entry l = length l.entries.items
