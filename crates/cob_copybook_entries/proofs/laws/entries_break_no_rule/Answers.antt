use Rattle.cob_copybook_entries.proofs.NoRule.{no_rule}
use Rattle.cob_copybook_entries.proofs.laws.entries_break_no_rule.Goals as goal

pub returns : goal.returns
returns c = no_rule c.one_entry.ensures
