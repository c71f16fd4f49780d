use Rattle.std.proofs.Common.{length}
use Rattle.cob_test_moves.proofs.choices.+ways.Given as goal

abbrev pub decreases-ways : goal.decreases-ways
decreases-ways l = length l.sizes.now
