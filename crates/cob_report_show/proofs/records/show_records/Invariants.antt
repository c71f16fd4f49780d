-- The lines of the records so far went out, and there is room for a record and its places.
use Rattle.std.proofs.Common.{◌≡◌, length}
use Rattle.cob_copybook_tree.specs.Lengths.{greatest_number, sum_of}
use Rattle.cob_layout.specs.Standing.{IsRoomFor}
use Rattle.cob_report_show.proofs.RunLemmas.{ListedSoFar}
use Rattle.cob_report_show.proofs.records.show_records.Given as goal

abbrev pub invariant-loop-done : goal.invariant-loop-done
invariant-loop-done g l = record {
  bytes : length l.bytes ≡ sum_of greatest_number l.shown.layout.now;
  room : IsRoomFor l.shown.layout.now l.places;
  so_far : ListedSoFar l.shown.form l.shown.layout.now l.done l.written l.left (g.R.Source.coming l.fn.source) (g.R.Source.coming l.source) (g.W.Sink.taken l.fn.sink) (g.W.Sink.taken l.sink);
  reads : g.R.Source.failures l.source ≡ g.R.Source.failures l.fn.source;
  writes : g.W.Sink.failures l.sink ≡ g.W.Sink.failures l.fn.sink;
  errors : g.W.Sink.errors l.sink ≡ g.W.Sink.errors l.fn.sink;
}
