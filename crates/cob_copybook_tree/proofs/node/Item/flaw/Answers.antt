use Rattle.cob_copybook_tree.proofs.ItemLemmas.{none_flawed}
use Rattle.cob_copybook_tree.proofs.node.Item.flaw.Goals as goal

pub returns-clause-none : goal.returns-clause-none
returns-clause-none c = none_flawed c.args.self.now c.args.bytes.now c.strict_flaw.result c.strict_flaw.ensures.steady c.strict_flaw.ensures.none
