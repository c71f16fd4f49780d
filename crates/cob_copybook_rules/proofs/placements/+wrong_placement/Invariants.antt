use Rattle.std.proofs.Common.{drop}
use Rattle.cob_copybook_tree.specs.Branches.{forest_of}
use Rattle.cob_copybook_rules.specs.Placements.{ArePlaced}
use Rattle.cob_copybook_rules.proofs.placements.+wrong_placement.Given as goal

abbrev pub decreases-wrong_placement : goal.decreases-wrong_placement
decreases-wrong_placement l = goal.size-wrong_placement l

abbrev pub invariant-loop-branch : goal.invariant-loop-branch
invariant-loop-branch l = record {
  left : ArePlaced l.above (forest_of (drop l.branch-index l.branches)) → ArePlaced l.above (forest_of l.branches);
  whole : ArePlaced l.above (forest_of l.branches) → ArePlaced l.above (forest_of (drop l.branch-index l.branches));
}
