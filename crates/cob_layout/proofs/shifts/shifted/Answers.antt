use Rattle.cob_layout.proofs.ShiftLemmas.{only_moved}
use Rattle.cob_layout.proofs.shifts.shifted.Goals as goal

pub returns-then-shift : goal.returns-then-shift
returns-then-shift c = only_moved c.args.sums.now c.args.count c.args.shift c.args.least (c.requires.within.plain c.if-shift.true)
