use Rattle.std.proofs.Common.{length}
use Rattle.cob_back_losses.proofs.constants.+stands_from.Given as goal

abbrev pub decreases-stands_from : goal.decreases-stands_from
decreases-stands_from l = length l.digits.now
