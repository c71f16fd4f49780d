-- The texts so far went out.
use Rattle.std.proofs.Common.{◌≡◌, drop, map}
use Rattle.std.specs.List.{flat_map}
use Rattle.cob_copybook_conditions.specs.Names.{plain_span}
use Rattle.cob_report_show.specs.Conditions.{span_text}
use Rattle.cob_report_show.proofs.TextLemmas.{TextSoFar}
use Rattle.cob_report_show.proofs.conditions.put_spans.Given as goal

abbrev pub invariant-loop-span : goal.invariant-loop-span
invariant-loop-span g l = record {
  so_far : TextSoFar (flat_map span_text (map plain_span l.spans)) (flat_map span_text (map plain_span (drop l.span-index l.spans))) l.fn.sent l.sent (g.W.Sink.taken l.fn.sink) (g.W.Sink.taken l.sink);
  writes : g.W.Sink.failures l.sink ≡ g.W.Sink.failures l.fn.sink;
  errors : g.W.Sink.errors l.sink ≡ g.W.Sink.errors l.fn.sink;
}
