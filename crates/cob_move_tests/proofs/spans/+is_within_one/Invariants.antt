use Rattle.std.proofs.Common.{length}
use Rattle.cob_move_tests.proofs.spans.+is_within_one.Given as goal

abbrev pub decreases-is_within_one : goal.decreases-is_within_one
decreases-is_within_one l = length l.more.now
