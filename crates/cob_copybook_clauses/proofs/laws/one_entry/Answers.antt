use Rattle.cob_copybook_clauses.proofs.OneLemmas.{one_entry}
use Rattle.cob_copybook_clauses.proofs.laws.one_entry.Goals as goal

pub returns : goal.returns
returns c = one_entry
