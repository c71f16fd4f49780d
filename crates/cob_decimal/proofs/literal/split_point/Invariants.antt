use Rattle.std.proofs.Common.{take}
use Rattle.cob_decimal.specs.Parts.{HasNoPoint}
use Rattle.cob_decimal.proofs.literal.split_point.Given as goal

abbrev pub invariant-loop-at : goal.invariant-loop-at
invariant-loop-at l = HasNoPoint (take l.at l.text)
