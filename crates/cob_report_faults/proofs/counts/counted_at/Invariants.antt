use Rattle.cob_layout.specs.Standing.{IsRoomFor}
use Rattle.cob_report_faults.proofs.counts.counted_at.Given as goal

abbrev pub invariant-loop-table : goal.invariant-loop-table
invariant-loop-table l = IsRoomFor l.layout l.counts
