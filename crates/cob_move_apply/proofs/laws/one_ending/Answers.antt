use Rattle.cob_move_apply.proofs.OneLemmas as lemmas
use Rattle.cob_move_apply.proofs.laws.one_ending.Goals as goal

pub returns : goal.returns
returns c = lemmas.one_ending c.one_outcome_of_counts.ensures.needed c.one_received.ensures
