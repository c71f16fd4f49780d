use Rattle.std.proofs.Common.{◌≡◌, ◌+◌}
use Rattle.cob_copybook_tree.specs.Lengths.{sum_of}
use Rattle.cob_layout_places.specs.Lengths.{times}
use Rattle.cob_layout_places.specs.Places.{place_of}
use Rattle.cob_layout_places.proofs.ForestLemmas.{left, below}
use Rattle.cob_layout_places.proofs.PlaceLemmas.{Left}
use Rattle.cob_layout_places.proofs.places.+seek_or_measure.Given as goal

abbrev pub decreases-seek_or_measure : goal.decreases-seek_or_measure
decreases-seek_or_measure l = goal.size-seek_or_measure l

abbrev pub invariant-loop-child : goal.invariant-loop-child
invariant-loop-child l =
    let rest = left l.child-items l.child-index in
    let c = times l.counts in
    record {
      same : place_of c l.number (below l.entry) l.offset l.offset l.inner ≡ place_of c l.number rest l.at l.area l.inner;
      left : Left c rest l.at l.area 32752;
      sum : l.offset + sum_of c (below l.entry) ≡ l.at + sum_of c rest;
    }
