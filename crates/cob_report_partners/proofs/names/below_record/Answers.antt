use Rattle.cob_report_partners.proofs.RecordLemmas.{below}
use Rattle.cob_report_partners.proofs.names.below_record.Goals as goal

pub returns : goal.returns
returns c = below c.saturating_sub.result c.args.above.now c.saturating_sub.ensures
