use Rattle.std.proofs.Common.{drop}
use Rattle.cob_copybook_tree.specs.Branches.{forest_of}
use Rattle.cob_copybook_rules.specs.Signs.{AreSigned}
use Rattle.cob_copybook_rules.proofs.signs.+wrong_sign.Given as goal

abbrev pub decreases-wrong_sign : goal.decreases-wrong_sign
decreases-wrong_sign l = goal.size-wrong_sign l

abbrev pub invariant-loop-branch : goal.invariant-loop-branch
invariant-loop-branch l = record {
  left : AreSigned l.above (forest_of (drop l.branch-index l.branches)) → AreSigned l.above (forest_of l.branches);
  whole : AreSigned l.above (forest_of l.branches) → AreSigned l.above (forest_of (drop l.branch-index l.branches));
}
