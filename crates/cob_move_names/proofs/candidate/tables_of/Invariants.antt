use Rattle.std.proofs.Common.{◌≡◌, take}
use Rattle.cob_move_names.proofs.candidate.tables_of.Given as goal

abbrev pub invariant-loop-table : goal.invariant-loop-table
invariant-loop-table l = record {
  items : l.tables.items ≡ take l.table-index l.holding;
}
