use Rattle.cob_move_conditions.proofs.OneLemmas.{one_written}
use Rattle.cob_move_conditions.proofs.laws.one_written_condition.Goals as goal

pub returns : goal.returns
returns c = one_written
