use Rattle.std.proofs.Common.{◌≡◌, ◌++◌, length}
use Rattle.cob_copybook_tree.specs.Forests.{AreDeeper}
use Rattle.cob_copybook_tree.specs.Branches.{forest_of, level_of}
use Rattle.cob_copybook_tree.proofs.planting.taken.Given as goal

abbrev pub invariant-loop-child : goal.invariant-loop-child
invariant-loop-child l = record {
  parts : l.fn.pending.items ≡ l.children.items ++ l.pending.items;
  deeper : AreDeeper level_of l.level (forest_of l.children.items);
}

abbrev pub decreases-loop-child : goal.decreases-loop-child
decreases-loop-child l = length l.pending.items
