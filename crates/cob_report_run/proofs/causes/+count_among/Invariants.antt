use Rattle.std.proofs.Common.{length}
use Rattle.cob_report_run.proofs.causes.+count_among.Given as goal

abbrev pub decreases-count_among : goal.decreases-count_among
decreases-count_among l = length l.counts.now
