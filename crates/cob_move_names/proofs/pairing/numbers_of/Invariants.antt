use Rattle.std.proofs.Common.{◌≡◌, map, take}
use Rattle.cob_move_names.specs.PlainPairs.{pairs}
use Rattle.cob_move_names.specs.Pairing.{pair_numbers}
use Rattle.cob_move_names.proofs.pairing.numbers_of.Given as goal

abbrev pub invariant-loop-one : goal.invariant-loop-one
invariant-loop-one l = l.numbers.items ≡ map pair_numbers (pairs (take l.one-index l.list))
