use Rattle.cob_copybook_tree.proofs.StandsForLemmas.{one_tree_of}
use Rattle.cob_copybook_tree.proofs.laws.one_tree.Goals as goal

pub returns : goal.returns
returns c = one_tree_of
