-- The lines of the entries so far went out.
use Rattle.std.proofs.Common.{◌≡◌}
use Rattle.cob_copybook_conditions.specs.Names.{plain_condition_names}
use Rattle.cob_copybook_tree.specs.Nodes.{tree_of}
use Rattle.cob_layout_places.proofs.ForestLemmas.{left}
use Rattle.cob_report_show.specs.Entries.{lines_among}
use Rattle.cob_report_show.proofs.TextLemmas.{TextSoFar}
use Rattle.cob_report_show.proofs.entries.+put_entries.Given as goal

abbrev pub invariant-loop-child : goal.invariant-loop-child
invariant-loop-child g l = record {
  so_far : TextSoFar (lines_among l.layout (plain_condition_names l.names) (tree_of l.entry)) (lines_among l.layout (plain_condition_names l.names) (left l.child-items l.child-index))
      l.fn.sent l.sent (g.W.Sink.taken l.fn.sink) (g.W.Sink.taken l.sink);
  writes : g.W.Sink.failures l.sink ≡ g.W.Sink.failures l.fn.sink;
  errors : g.W.Sink.errors l.sink ≡ g.W.Sink.errors l.fn.sink;
}
