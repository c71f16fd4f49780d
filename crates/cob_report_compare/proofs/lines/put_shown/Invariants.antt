-- The bytes so far were printed.
use Rattle.std.proofs.Common.{◌≡◌, drop}
use Rattle.cob_report_compare.specs.Lines.{AreBytesShown}
use Rattle.cob_report_compare.proofs.PrintLemmas.{PrintedSoFar}
use Rattle.cob_report_compare.proofs.lines.put_shown.Given as goal

abbrev pub invariant-loop-byte : goal.invariant-loop-byte
invariant-loop-byte g l = record {
  so_far : PrintedSoFar AreBytesShown l.bytes (drop l.byte-index l.bytes) (g.W.Sink.taken l.fn.sink) (g.W.Sink.taken l.sink);
  writes : g.W.Sink.failures l.sink ≡ g.W.Sink.failures l.fn.sink;
}
