use Rattle.std.proofs.Common.{length}
use Rattle.cob_report_draft.proofs.loops.+loops_over.Given as goal

abbrev pub decreases-loops_over : goal.decreases-loops_over
decreases-loops_over l = length l.levels.now
