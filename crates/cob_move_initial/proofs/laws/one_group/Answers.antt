use Rattle.cob_move_initial.proofs.ItemLemmas as lemmas
use Rattle.cob_move_initial.proofs.laws.one_group.Goals as goal

pub returns : goal.returns
returns c = lemmas.one_group c.one_received.ensures
