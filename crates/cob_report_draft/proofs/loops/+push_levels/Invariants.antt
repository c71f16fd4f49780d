use Rattle.std.proofs.Common.{length}
use Rattle.cob_report_draft.proofs.loops.+push_levels.Given as goal

abbrev pub decreases-push_levels : goal.decreases-push_levels
decreases-push_levels l = length l.from.now
