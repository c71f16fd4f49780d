use Rattle.std.proofs.Common.{◌≡◌, ◌*◌, take}
use Rattle.cob_codec.specs.Packed.{bytes_of_halves}
use Rattle.cob_codec.proofs.packed.put_halves.Given as goal

abbrev pub invariant-loop-at : goal.invariant-loop-at
invariant-loop-at l = take l.at l.bytes ≡ bytes_of_halves (take (2 * l.at) l.digits)
