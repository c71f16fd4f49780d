use Rattle.std.proofs.Common.{◌≡◌, drop}
use Rattle.cob_report_compare.specs.Chosen.{counts_of_tables, is_one_of}
use Rattle.cob_report_compare.proofs.chosen.is_count.Given as goal

abbrev pub invariant-loop-table : goal.invariant-loop-table
invariant-loop-table l = record {
  same : is_one_of (counts_of_tables (drop l.table-index l.tables)) l.number ≡ is_one_of (counts_of_tables l.tables) l.number;
}
