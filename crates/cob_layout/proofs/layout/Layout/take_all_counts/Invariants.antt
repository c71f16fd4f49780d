use Rattle.std.proofs.Common.{◌≡◌, ◌<◌, ℕ, List, drop, length}
use Rattle.std.specs.Prelude.{Result, slice_index}
use Rattle.cob_layout_places.specs.declared.counts.CountFault.{CountFault}
use Rattle.cob_layout_places.specs.Counts.{Taken}
use Rattle.cob_layout.specs.Standing.{first_number}
use Rattle.cob_layout.proofs.layout.Layout.take_all_counts.Given as goal

abbrev pub invariant-loop-table : goal.invariant-loop-table
invariant-loop-table l = record {
  so_far : (r : Result (List ℕ) CountFault) → Taken l.self l.bytes (drop l.table-index l.tables) l.counts r → Taken l.self l.bytes l.tables l.fn.counts r;
  room : length l.counts ≡ length l.fn.counts;
  early : (k : ℕ) → k < first_number l.tables → slice_index l.counts k ≡ slice_index l.fn.counts k;
}
