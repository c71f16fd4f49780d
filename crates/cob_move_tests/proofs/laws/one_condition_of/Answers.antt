use Rattle.cob_move_tests.proofs.OneLemmas.{one_condition}
use Rattle.cob_move_tests.proofs.laws.one_condition_of.Goals as goal

pub returns : goal.returns
returns c = one_condition c.one_written_condition.ensures c.one_named.ensures c.one_valued.ensures
