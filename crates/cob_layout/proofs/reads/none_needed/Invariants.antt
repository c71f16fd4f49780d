use Rattle.std.proofs.Common.{◌≡◌, drop}
use Rattle.cob_layout_places.specs.Needs.{is_needed, keep}
use Rattle.cob_layout.proofs.reads.none_needed.Given as goal

abbrev pub invariant-loop-table : goal.invariant-loop-table
invariant-loop-table l = record {
  same : keep (is_needed l.behind l.last l.number) (drop l.table-index l.tables) ≡ keep (is_needed l.behind l.last l.number) l.tables;
}
