use Rattle.std.proofs.Common.{◌≡◌, ◌+◌, drop}
use Rattle.cob_move.specs.DeedsRead.{flow_lists, linked_size}
use Rattle.cob_move.proofs.linking.linked_size.Given as goal

abbrev pub invariant-loop-own : goal.invariant-loop-own
invariant-loop-own l = l.size + linked_size (flow_lists (drop l.own-index l.turns)) ≡ 1 + linked_size (flow_lists l.turns)
