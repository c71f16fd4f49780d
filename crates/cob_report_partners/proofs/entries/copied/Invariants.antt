use Rattle.std.proofs.Common.{◌≡◌, take}
use Rattle.cob_report_partners.proofs.entries.copied.Given as goal

abbrev pub invariant-loop-table : goal.invariant-loop-table
invariant-loop-table l = record {
  items : l.own.items ≡ take l.table-index l.tables;
}
