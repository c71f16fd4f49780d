use Rattle.std.proofs.Common.{◌≡◌, length, drop}
use Rattle.cob_layout_places.specs.Needs.{greatest}
use Rattle.cob_layout_places.proofs.needs.begin_with_greatest.Given as goal

abbrev pub invariant-loop-table : goal.invariant-loop-table
invariant-loop-table l = record {
  same : greatest (drop l.table-index l.tables) l.counts ≡ greatest l.tables l.fn.counts;
  room : length l.counts ≡ length l.fn.counts;
}
