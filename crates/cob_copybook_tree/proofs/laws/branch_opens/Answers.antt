use Rattle.cob_copybook_tree.proofs.BranchLemmas.{branch_out}
use Rattle.cob_copybook_tree.proofs.laws.branch_opens.Goals as goal

pub returns : goal.returns
returns c = branch_out
