-- The texts so far went out.
use Rattle.std.proofs.Common.{◌≡◌, drop, map}
use Rattle.std.specs.List.{flat_map}
use Rattle.cob_copybook_conditions.specs.Names.{plain_condition_name}
use Rattle.cob_report_show.specs.Conditions.{name_line_of}
use Rattle.cob_report_show.proofs.TextLemmas.{TextSoFar}
use Rattle.cob_report_show.proofs.conditions.put_names.Given as goal

abbrev pub invariant-loop-name : goal.invariant-loop-name
invariant-loop-name g l = record {
  so_far : TextSoFar (flat_map (name_line_of l.number) (map plain_condition_name l.names)) (flat_map (name_line_of l.number) (map plain_condition_name (drop l.name-index l.names))) l.fn.sent l.sent (g.W.Sink.taken l.fn.sink) (g.W.Sink.taken l.sink);
  writes : g.W.Sink.failures l.sink ≡ g.W.Sink.failures l.fn.sink;
  errors : g.W.Sink.errors l.sink ≡ g.W.Sink.errors l.fn.sink;
}
