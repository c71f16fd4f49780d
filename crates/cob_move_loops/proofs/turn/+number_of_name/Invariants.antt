use Rattle.std.proofs.Common.{length}
use Rattle.cob_move_loops.proofs.turn.+number_of_name.Given as goal

abbrev pub decreases-number_of_name : goal.decreases-number_of_name
decreases-number_of_name l = length l.turn.now
