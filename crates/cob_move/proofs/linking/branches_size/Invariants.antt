use Rattle.std.proofs.Common.{◌≡◌, ◌+◌, drop, length}
use Rattle.cob_move.specs.DeedsRead.{branches_size, taken_branches}
use Rattle.cob_move.proofs.linking.branches_size.Given as goal

abbrev pub invariant-loop-branch : goal.invariant-loop-branch
invariant-loop-branch l = l.size + branches_size (taken_branches (drop l.branch-index l.branches)) l.other ≡ length l.other + branches_size (taken_branches l.branches) l.other
