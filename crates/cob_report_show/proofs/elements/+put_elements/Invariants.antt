-- The lines of the elements so far went out, and the reference is as it was.
use Rattle.std.proofs.Common.{◌≡◌, ◌++◌, ◌∷◌, [], length}
use Rattle.cob_report_show.specs.Elements.{named_item, printed_record, table_times}
use Rattle.cob_report_show.specs.Lines.{AreElementLines}
use Rattle.cob_report_show.proofs.TurnLemmas.{InTurnSoFar}
use Rattle.cob_report_show.proofs.elements.+put_elements.Given as goal

abbrev pub decreases-put_elements : goal.decreases-put_elements
decreases-put_elements g l = length l.tables.now

abbrev pub invariant-loop-earlier : goal.invariant-loop-earlier
invariant-loop-earlier g l = record {
  node : l.reference.node ≡ l.fn.reference.node;
  same : l.reference.subscripts.items ≡ l.fn.reference.subscripts.items;
  so_far : InTurnSoFar (λ s lines. AreElementLines (printed_record l.contents) (named_item l.item) (table_times (printed_record l.contents) l.inner) (l.fn.reference.subscripts.items ++ s ∷ []) lines)
      l.earlier l.fn.sent l.sent (g.W.Sink.taken l.fn.sink) (g.W.Sink.taken l.sink);
  writes : g.W.Sink.failures l.sink ≡ g.W.Sink.failures l.fn.sink;
  errors : g.W.Sink.errors l.sink ≡ g.W.Sink.errors l.fn.sink;
}
