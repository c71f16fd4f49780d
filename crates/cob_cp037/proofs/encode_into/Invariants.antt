use Rattle.std.proofs.Common.{ℕ, ◌<◌, get_or}
use Rattle.cob_cp037.specs.Table.{IsCoded}
use Rattle.cob_cp037.proofs.encode_into.Given as goal

abbrev pub invariant-loop-at : goal.invariant-loop-at
invariant-loop-at l = (k : ℕ) → k < l.at → IsCoded (get_or l.characters k 0) (get_or l.bytes k 0)
