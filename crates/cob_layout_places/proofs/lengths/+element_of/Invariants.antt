use Rattle.std.proofs.Common.{◌≡◌, ◌≤◌, ◌+◌}
use Rattle.cob_copybook_tree.specs.Lengths.{greatest_number, sum_of}
use Rattle.cob_layout_places.specs.Lengths.{times, MayOccur}
use Rattle.cob_layout_places.proofs.ForestLemmas.{left, below}
use Rattle.cob_layout_places.proofs.lengths.+element_of.Given as goal

abbrev pub decreases-element_of : goal.decreases-element_of
decreases-element_of l = goal.size-element_of l

abbrev pub invariant-loop-child : goal.invariant-loop-child
invariant-loop-child l =
    let rest = left l.child-items l.child-index in
    record {
      sum : l.sum + sum_of (times l.counts) rest ≡ sum_of (times l.counts) (below l.entry);
      possible : MayOccur rest;
      small : sum_of (times l.counts) (below l.entry) ≤ 32752;
      greatest : sum_of greatest_number rest ≤ 32752;
    }
