-- The lines so far were printed, and the differences that are left can be.
use Rattle.std.proofs.Common.{◌≡◌, drop, map}
use Rattle.cob_report_compare.specs.Differences.{plain_difference}
use Rattle.cob_report_compare.specs.Printable.{ArePrintable}
use Rattle.cob_report_compare.proofs.PrintLemmas.{PrintedSoFar, lines_of}
use Rattle.cob_report_compare.proofs.lines.put_differences.Given as goal

abbrev pub invariant-loop-difference : goal.invariant-loop-difference
invariant-loop-difference g l = record {
  printable : ArePrintable l.left l.right (map plain_difference (drop l.difference-index l.differences));
  so_far : PrintedSoFar (lines_of l.left l.right) l.differences (drop l.difference-index l.differences) (g.W.Sink.taken l.fn.sink) (g.W.Sink.taken l.sink);
  writes : g.W.Sink.failures l.sink ≡ g.W.Sink.failures l.fn.sink;
}
