use Rattle.cob_copybook_tree.proofs.ItemLemmas as lemmas
use Rattle.cob_copybook_tree.proofs.item_laws.strict_is_any.Goals as goal

pub returns : goal.returns
returns c = lemmas.strict_is_any
