use Rattle.std.proofs.Common.{◌≡◌, ◌++◌, drop}
use Rattle.cob_move.specs.DeedsRead.{branches_size, linked_branches, taken_branches}
use Rattle.cob_move.proofs.linking.link_branches.Given as goal

abbrev pub invariant-loop-branch : goal.invariant-loop-branch
invariant-loop-branch l = record {
  left : l.left ≡ branches_size (taken_branches (drop l.branch-index l.branches)) l.other;
  same : l.flows.items ++ linked_branches (taken_branches (drop l.branch-index l.branches)) l.other ≡ l.fn.flows.items ++ linked_branches (taken_branches l.branches) l.other;
}
