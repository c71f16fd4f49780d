use Rattle.cob_move_loops.proofs.OneLemmas.{breaks_none}
use Rattle.cob_move_loops.proofs.laws.breaks_none.Goals as goal

pub returns : goal.returns
returns c = breaks_none
