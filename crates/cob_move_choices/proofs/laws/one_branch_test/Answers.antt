use Rattle.cob_move_choices.proofs.OneLemmas.{one_test_of}
use Rattle.cob_move_choices.proofs.laws.one_branch_test.Goals as goal

pub returns : goal.returns
returns c = one_test_of c.one_condition_of.ensures c.one_named.ensures
