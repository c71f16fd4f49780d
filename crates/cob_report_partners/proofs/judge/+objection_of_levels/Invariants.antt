use Rattle.std.proofs.Common.{length}
use Rattle.cob_report_partners.proofs.judge.+objection_of_levels.Given as goal

abbrev pub decreases-objection_of_levels : goal.decreases-objection_of_levels
decreases-objection_of_levels l = length l.from.now
