use Rattle.std.proofs.Common.{◌≡◌}
use Rattle.cob_convert.proofs.Carried.{Carried}
use Rattle.cob_convert.proofs.run.run_over.Given as goal

abbrev pub invariant-loop-done : goal.invariant-loop-done
invariant-loop-done g l = record {
  so_far : Carried l.conversion l.done l.written l.left l.outlet (g.R.Source.coming l.initial.source) (g.R.Source.coming l.source) (g.W.Sink.taken l.initial.sink) (g.W.Sink.taken l.sink);
  reads : g.R.Source.failures l.source ≡ g.R.Source.failures l.initial.source;
  writes : g.W.Sink.failures l.sink ≡ g.W.Sink.failures l.initial.sink;
  room : l.room ≡ l.initial.room;
  errors : g.W.Sink.errors l.sink ≡ g.W.Sink.errors l.initial.sink;
}
