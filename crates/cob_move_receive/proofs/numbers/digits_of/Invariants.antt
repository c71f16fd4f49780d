use Rattle.std.proofs.Common.{◌≡◌, take}
use Rattle.cob_move_receive.specs.Numbers.{digits_of}
use Rattle.cob_move_receive.proofs.numbers.digits_of.Given as goal

abbrev pub invariant-loop-byte : goal.invariant-loop-byte
invariant-loop-byte l = l.digits ≡ digits_of (take l.byte-index l.bytes)
