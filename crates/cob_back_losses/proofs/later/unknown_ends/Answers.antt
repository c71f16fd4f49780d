use Rattle.std.proofs.Common.{arith}
use Rattle.cob_back_losses.proofs.later.unknown_ends.Goals as goal

pub returns-clause-ends : goal.returns-clause-ends
returns-clause-ends c = λ marks at byte le below. absurd (omega (arith, below, c.loop.invariant.none at))
