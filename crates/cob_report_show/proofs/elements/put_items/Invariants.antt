-- The lines of the items so far went out, and the elements of those that are left stand.
use Rattle.std.proofs.Common.{◌≡◌, drop, map}
use Rattle.cob_report_show.specs.Elements.{ItemsStand, named_item, printed_record}
use Rattle.cob_report_show.proofs.TurnLemmas.{ItemsSoFar}
use Rattle.cob_report_show.proofs.elements.put_items.Given as goal

abbrev pub invariant-loop-item : goal.invariant-loop-item
invariant-loop-item g l = record {
  stand : ItemsStand (printed_record l.contents) (map named_item (drop l.item-index l.items));
  so_far : ItemsSoFar (printed_record l.contents) (map named_item l.items) (map named_item (drop l.item-index l.items)) l.fn.sent l.sent (g.W.Sink.taken l.fn.sink) (g.W.Sink.taken l.sink);
  writes : g.W.Sink.failures l.sink ≡ g.W.Sink.failures l.fn.sink;
  errors : g.W.Sink.errors l.sink ≡ g.W.Sink.errors l.fn.sink;
}
