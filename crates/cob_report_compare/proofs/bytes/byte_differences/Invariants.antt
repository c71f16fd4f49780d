-- The bytes so far were told.
use Rattle.std.proofs.Common.{◌≤◌}
use Rattle.cob_report_compare.proofs.BytesLemmas.{BytesSoFar}
use Rattle.cob_report_compare.proofs.bytes.byte_differences.Given as goal

abbrev pub invariant-loop-offset : goal.invariant-loop-offset
invariant-loop-offset l = record {
  so_far : BytesSoFar l.left l.right l.offset l.told;
  few : l.told.count ≤ l.offset;
}
