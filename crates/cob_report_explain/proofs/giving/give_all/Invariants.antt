use Rattle.std.proofs.Common.{◌≡◌, length}
use Rattle.cob_layout.specs.Standing.{IsRoomFor}
use Rattle.cob_move_apply.specs.Placed.{content_of}
use Rattle.cob_report_explain.specs.Seen.{move_of}
use Rattle.cob_report_explain.proofs.EachLemmas.{SoFar}
use Rattle.cob_report_explain.proofs.giving.give_all.Given as goal

abbrev pub invariant-loop-index : goal.invariant-loop-index
invariant-loop-index g l = record {
  seen : SoFar l.layout (move_of l.parts) (content_of l.given) l.parts.receivers.now l.index l.fn.output l.output (g.W.Watcher.seen l.fn.watcher) (g.W.Watcher.seen l.watcher);
  output : length l.output ≡ length l.fn.output;
  room : IsRoomFor l.layout l.counts;
}
