use Rattle.std.proofs.Common.{◌≡◌, ◌++◌, drop}
use Rattle.cob_move_names.specs.Pairs.{pairs_among}
use Rattle.cob_move_names.specs.PlainPairs.{subordinates_listed, pairs}
use Rattle.cob_move_names.proofs.pairing.pairs_between.Given as goal

abbrev pub invariant-loop-sender : goal.invariant-loop-sender
invariant-loop-sender l =
    pairs_among (subordinates_listed l.from) (subordinates_listed l.to.entries.items) ≡ pairs l.found.list.items ++ pairs_among (subordinates_listed (drop l.sender-index l.from)) (subordinates_listed l.to.entries.items)
