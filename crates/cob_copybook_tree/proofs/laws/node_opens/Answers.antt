use Rattle.cob_copybook_tree.proofs.NodeLemmas.{node_out}
use Rattle.cob_copybook_tree.proofs.laws.node_opens.Goals as goal

pub returns : goal.returns
returns c = node_out
