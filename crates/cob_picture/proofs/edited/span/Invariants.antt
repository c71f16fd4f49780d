use Rattle.std.proofs.Common.{take}
use Rattle.cob_picture.specs.Positions.{written_out}
use Rattle.cob_picture.specs.Edited.{AreOf}
use Rattle.cob_picture.proofs.edited.span.Given as goal

abbrev pub invariant-loop-i : goal.invariant-loop-i
invariant-loop-i l = AreOf l.part l.run (written_out (take l.i l.runs))
