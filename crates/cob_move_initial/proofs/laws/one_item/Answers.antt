use Rattle.cob_move_initial.proofs.ItemLemmas as lemmas
use Rattle.cob_move_initial.proofs.laws.one_item.Goals as goal

pub returns : goal.returns
returns c = lemmas.one_item c.one_received.ensures
