use Rattle.std.proofs.Common.{length}
use Rattle.cob_move_tests.proofs.spans.+may_be_within_each.Given as goal

abbrev pub decreases-may_be_within_each : goal.decreases-may_be_within_each
decreases-may_be_within_each l = length l.spans.now
