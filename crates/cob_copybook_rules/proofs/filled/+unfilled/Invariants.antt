use Rattle.std.proofs.Common.{drop}
use Rattle.cob_copybook_tree.specs.Branches.{forest_of}
use Rattle.cob_copybook_rules.specs.Filled.{AreFilled}
use Rattle.cob_copybook_rules.proofs.filled.+unfilled.Given as goal

abbrev pub decreases-unfilled : goal.decreases-unfilled
decreases-unfilled l = goal.size-unfilled l

abbrev pub invariant-loop-branch : goal.invariant-loop-branch
invariant-loop-branch l = record {
  left : AreFilled (forest_of (drop l.branch-index l.branches)) → AreFilled (forest_of l.branches);
  whole : AreFilled (forest_of l.branches) → AreFilled (forest_of (drop l.branch-index l.branches));
}
