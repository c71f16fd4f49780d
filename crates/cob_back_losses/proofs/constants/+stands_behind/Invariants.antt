use Rattle.std.proofs.Common.{length}
use Rattle.cob_back_losses.proofs.constants.+stands_behind.Given as goal

abbrev pub decreases-stands_behind : goal.decreases-stands_behind
decreases-stands_behind l = length l.digits.now
