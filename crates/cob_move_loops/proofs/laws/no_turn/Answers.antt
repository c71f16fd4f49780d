use Rattle.cob_move_loops.proofs.TurnLemmas.{no_turn}
use Rattle.cob_move_loops.proofs.laws.no_turn.Goals as goal

pub returns : goal.returns
returns c = no_turn
