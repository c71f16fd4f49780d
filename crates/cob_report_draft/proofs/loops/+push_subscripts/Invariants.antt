use Rattle.std.proofs.Common.{length}
use Rattle.cob_report_draft.proofs.loops.+push_subscripts.Given as goal

abbrev pub decreases-push_subscripts : goal.decreases-push_subscripts
decreases-push_subscripts l = length l.counts.now
