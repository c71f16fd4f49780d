use Rattle.std.proofs.Common.{◌≡◌, ◌+◌, ◌≤◌, min, drop}
use Rattle.cob_copybook_tree.specs.declared.lengths.TheConstants.{MANY}
use Rattle.cob_copybook_tree.specs.Nodes.{forest}
use Rattle.cob_copybook_tree.specs.Lengths.{greatest_number, sum_of}
use Rattle.cob_copybook_tree.proofs.lengths.+element_length.Given as goal

abbrev pub decreases-element_length : goal.decreases-element_length
decreases-element_length l = goal.size-element_length l

abbrev pub invariant-loop-child : goal.invariant-loop-child
invariant-loop-child l = record {
  sum : min (l.sum + sum_of greatest_number (forest (drop l.child-index l.child-items))) MANY ≡ min (sum_of greatest_number (forest l.child-items)) MANY;
  most : l.sum ≤ MANY;
}
