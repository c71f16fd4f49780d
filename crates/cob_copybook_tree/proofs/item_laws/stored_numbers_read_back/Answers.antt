use Rattle.cob_copybook_tree.proofs.ItemLemmas as lemmas
use Rattle.cob_copybook_tree.proofs.item_laws.stored_numbers_read_back.Goals as goal

pub returns : goal.returns
returns c = lemmas.reads_back
