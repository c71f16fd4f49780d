-- The entries so far were told, and either file stands in its room.
use Rattle.std.proofs.Common.{◌≡◌, map}
use Rattle.cob_report_show.specs.Elements.{named_item}
use Rattle.cob_report_compare.specs.Files.{IsFileRoom}
use Rattle.cob_report_compare.specs.Merged.{file_pair}
use Rattle.cob_report_compare.proofs.MergeLemmas.{MergedSoFar}
use Rattle.cob_report_compare.proofs.merging.compare_merged.Given as goal

abbrev pub invariant-loop-done : goal.invariant-loop-done
invariant-loop-done g l = record {
  left_room : IsFileRoom l.files.layout.now (map named_item l.files.keys.now) l.left_room;
  right_room : IsFileRoom l.files.layout.now (map named_item l.files.keys.now) l.right_room;
  so_far : MergedSoFar (file_pair l.files) l.done l.counts l.left_at l.right_at l.left_room l.right_room (g.L.Source.coming l.fn.left) (g.L.Source.coming l.left)
      (g.R.Source.coming l.fn.right) (g.R.Source.coming l.right) (g.W.Sink.taken l.fn.sink) (g.W.Sink.taken l.sink);
  writes : g.W.Sink.failures l.sink ≡ g.W.Sink.failures l.fn.sink;
  left_reads : g.L.Source.failures l.left ≡ g.L.Source.failures l.fn.left;
  right_reads : g.R.Source.failures l.right ≡ g.R.Source.failures l.fn.right;
}
