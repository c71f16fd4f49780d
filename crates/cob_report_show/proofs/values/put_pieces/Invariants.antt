-- The pieces so far went out or are in the line, and there is room for its end.
use Rattle.std.proofs.Common.{◌≡◌, ◌≤◌, ◌+◌, length}
use Rattle.cob_report_show.proofs.PieceLemmas.{PiecesSoFar}
use Rattle.cob_report_show.proofs.values.put_pieces.Given as goal

abbrev pub invariant-loop-byte : goal.invariant-loop-byte
invariant-loop-byte g l = record {
  so_far : PiecesSoFar l.notation l.initial.line.items l.line.items l.bytes l.byte-index l.initial.sent l.sent (g.W.Sink.taken l.initial.sink) (g.W.Sink.taken l.sink);
  room : length l.line.items + 2 ≤ 256;
  writes : g.W.Sink.failures l.sink ≡ g.W.Sink.failures l.fn.sink;
  errors : g.W.Sink.errors l.sink ≡ g.W.Sink.errors l.fn.sink;
}
