-- Each step takes some of the bytes that are left.
use Rattle.std.proofs.Common.{length}
use Rattle.cob_report_boxes.proofs.ribbons.write_bare.Given as goal

abbrev pub decreases-loop-behind : goal.decreases-loop-behind
decreases-loop-behind g l = length l.rest
