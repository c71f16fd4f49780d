use Rattle.std.proofs.Common.{arith}
use Rattle.cob_move_steps.proofs.CopyLemmas.{none_copied}
use Rattle.cob_move_steps.proofs.short.copy_few.Goals as goal

pub returns-else-count-ge1 : goal.returns-else-count-ge1
returns-else-count-ge1 c = none_copied c.args.from.now c.args.to.now c.requires.same (omega (arith, c.if-count-ge1.false))
