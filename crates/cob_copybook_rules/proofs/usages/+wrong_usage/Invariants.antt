use Rattle.std.proofs.Common.{drop}
use Rattle.cob_copybook_tree.specs.Branches.{forest_of}
use Rattle.cob_copybook_rules.specs.Usages.{AreUsages}
use Rattle.cob_copybook_rules.proofs.usages.+wrong_usage.Given as goal

abbrev pub decreases-wrong_usage : goal.decreases-wrong_usage
decreases-wrong_usage l = goal.size-wrong_usage l

abbrev pub invariant-loop-branch : goal.invariant-loop-branch
invariant-loop-branch l = record {
  left : AreUsages l.above (forest_of (drop l.branch-index l.branches)) → AreUsages l.above (forest_of l.branches);
  whole : AreUsages l.above (forest_of l.branches) → AreUsages l.above (forest_of (drop l.branch-index l.branches));
}
