use Rattle.std.proofs.Common.{ℕ, ◌<◌, get_or}
use Rattle.cob_move_receive.specs.Characters.{IsByteOf}
use Rattle.cob_move_receive.proofs.constants.encode.Given as goal

abbrev pub invariant-loop-at : goal.invariant-loop-at
invariant-loop-at l = (k : ℕ) → k < l.at → IsByteOf (get_or l.text k 0) (get_or l.bytes k 0)
