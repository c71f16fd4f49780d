use Rattle.std.proofs.Common.{length}
use Rattle.cob_move_tests.proofs.counters.+is_counted.Given as goal

abbrev pub decreases-is_counted : goal.decreases-is_counted
decreases-is_counted l = length l.turn.now
