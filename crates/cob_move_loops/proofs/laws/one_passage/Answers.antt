use Rattle.cob_move_loops.proofs.OneLemmas.{one_passage}
use Rattle.cob_move_loops.proofs.laws.one_passage.Goals as goal

pub returns : goal.returns
returns c = one_passage
