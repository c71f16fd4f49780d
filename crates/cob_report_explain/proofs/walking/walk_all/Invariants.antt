use Rattle.std.proofs.Common.{◌≡◌, drop, length}
use Rattle.cob_report_explain.specs.Each.{numbered_moves}
use Rattle.cob_report_explain.specs.Room.{HasEachRoom}
use Rattle.cob_report_explain.specs.Seen.{records_of_layouts}
use Rattle.cob_report_explain.proofs.EachLemmas.{MovesSoFar}
use Rattle.cob_report_explain.proofs.walking.walk_all.Given as goal

abbrev pub invariant-loop-number : goal.invariant-loop-number
invariant-loop-number g l = record {
  seen : MovesSoFar l.layouts.reading (records_of_layouts l.layouts) (numbered_moves 0 l.statements) (numbered_moves l.number (drop l.number l.statements)) l.input l.fn.output l.output
      (g.W.Watcher.seen l.fn.watcher) (g.W.Watcher.seen l.watcher);
  output : length l.output ≡ length l.fn.output;
  room : HasEachRoom (records_of_layouts l.layouts) l.room;
}
