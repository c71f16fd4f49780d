use Rattle.cob_copybook_rules.proofs.Breaking.{not_broken}
use Rattle.cob_copybook_rules.proofs.rules.breaks_no_rule.Goals as goal

pub returns : goal.returns
returns c = not_broken
