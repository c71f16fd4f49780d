use Rattle.cob_copybook_tree.proofs.StandsForLemmas.{as_many_of}
use Rattle.cob_copybook_tree.proofs.laws.as_many_entries.Goals as goal

pub returns : goal.returns
returns c = as_many_of
