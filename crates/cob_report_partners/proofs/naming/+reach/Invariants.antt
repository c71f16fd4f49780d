use Rattle.std.proofs.Common.{length}
use Rattle.cob_report_partners.proofs.naming.+reach.Given as goal

abbrev pub decreases-reach : goal.decreases-reach
decreases-reach l = length l.above.now
