use Rattle.cob_report_partners.proofs.BoundLemmas.{stays}
use Rattle.cob_report_partners.proofs.bounds.loops_stay_within_counts.Goals as goal

pub returns : goal.returns
returns c = stays
