use Rattle.std.proofs.Common.{◌≡◌, take}
use Rattle.cob_codec.proofs.binary.digits_from.Given as goal

abbrev pub invariant-loop-item : goal.invariant-loop-item
invariant-loop-item l = l.digits ≡ take l.item-index l.items
