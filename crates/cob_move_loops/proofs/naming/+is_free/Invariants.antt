use Rattle.std.proofs.Common.{length}
use Rattle.cob_move_loops.proofs.naming.+is_free.Given as goal

abbrev pub decreases-is_free : goal.decreases-is_free
decreases-is_free l = length l.around.now
