use Rattle.cob_report_partners.proofs.PrefixLemmas.{no_prefix_changes_nothing}
use Rattle.cob_report_partners.proofs.prefixes.no_prefix_changes_nothing.Goals as goal

pub returns : goal.returns
returns c = no_prefix_changes_nothing
