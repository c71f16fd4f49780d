use Rattle.cob_copybook_tree.proofs.ItemLemmas as lemmas
use Rattle.cob_copybook_tree.proofs.item_laws.one_sent_number.Goals as goal

pub returns : goal.returns
returns c = lemmas.one_sent
