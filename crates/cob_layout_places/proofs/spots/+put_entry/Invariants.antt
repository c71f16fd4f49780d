use Rattle.std.proofs.Common.{◌≡◌, ◌++◌, ◌+◌, ◌≤◌, drop, take, length}
use Rattle.cob_copybook_tree.specs.Forests.{entries_in}
use Rattle.cob_copybook_tree.specs.Lengths.{sum_of}
use Rattle.cob_layout_places.specs.Lengths.{times}
use Rattle.cob_layout_places.specs.Spots.{spots_of}
use Rattle.cob_layout_places.proofs.ForestLemmas.{left, below}
use Rattle.cob_layout_places.proofs.PlaceLemmas.{Left}
use Rattle.cob_layout_places.proofs.spots.+put_entry.Given as goal

abbrev pub decreases-put_entry : goal.decreases-put_entry
decreases-put_entry l = goal.size-put_entry l

abbrev pub invariant-loop-child : goal.invariant-loop-child
invariant-loop-child l =
    let rest = left l.child-items l.child-index in
    let c = times l.counts in
    record {
      left : Left c rest l.at l.area 32752;
      sum : l.start + sum_of c (below l.entry) ≡ l.at + sum_of c rest;
      first : 1 ≤ l.next;
      count : l.next + entries_in rest ≡ 1 + entries_in (below l.entry);
      long : length l.spots ≡ length l.fn.spots;
      kept : drop l.next l.spots ≡ drop l.next l.fn.spots;
      same : drop 1 (take l.next l.spots) ++ spots_of c rest l.at l.area ≡ spots_of c (below l.entry) l.start l.start;
    }
