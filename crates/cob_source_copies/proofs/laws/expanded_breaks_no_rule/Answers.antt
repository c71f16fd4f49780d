use Rattle.cob_source_copies.proofs.ExpansionLemmas.{expanded_breaks_no_rule}
use Rattle.cob_source_copies.proofs.laws.expanded_breaks_no_rule.Goals as goal

pub returns : goal.returns
returns c = λ texts ws done r line x why. expanded_breaks_no_rule texts ws done r line x why
