use Rattle.std.proofs.Common.{◌≡◌, drop, length}
use Rattle.cob_report_explain.specs.Each.{numbered_of_pairs}
use Rattle.cob_report_explain.specs.Room.{HasEachRoom}
use Rattle.cob_report_explain.specs.Seen.{records_of_layouts}
use Rattle.cob_report_explain.proofs.EachLemmas.{MovesSoFar}
use Rattle.cob_report_explain.proofs.statements.walk_pairs.Given as goal

abbrev pub invariant-loop-index : goal.invariant-loop-index
invariant-loop-index g l = record {
  seen : MovesSoFar l.layouts.reading (records_of_layouts l.layouts) (numbered_of_pairs l.statement l.group 0 l.pairs) (numbered_of_pairs l.statement l.group l.index (drop l.index l.pairs)) l.input l.fn.output l.output
      (g.W.Watcher.seen l.fn.watcher) (g.W.Watcher.seen l.watcher);
  output : length l.output ≡ length l.fn.output;
  room : HasEachRoom (records_of_layouts l.layouts) l.room;
}
