use Rattle.cob_copybook_tree.proofs.ItemLemmas as lemmas
use Rattle.cob_copybook_tree.proofs.item_laws.items_hold_numbers.Goals as goal

pub returns : goal.returns
returns c = lemmas.holds
