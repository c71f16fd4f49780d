use Rattle.std.proofs.Common.{◌≡◌, drop}
use Rattle.cob_layout.specs.Shifts.{all_shifted}
use Rattle.cob_layout.specs.Ways.{moved}
use Rattle.cob_layout.proofs.by_sums.element_by.Given as goal

abbrev pub invariant-loop-table : goal.invariant-loop-table
invariant-loop-table l = record {
  same : moved (all_shifted l.sums l.counts 0 l.shifts l.least) (drop l.table-index l.tables) l.rest l.found
      ≡ moved (all_shifted l.sums l.counts 0 l.shifts l.least) l.tables l.subscripts l.fn.first;
}
