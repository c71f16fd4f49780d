use Rattle.std.proofs.Common.{◌≡◌, ◌++◌, drop}
use Rattle.cob_move.specs.DeedsRead.{flow_lists, linked_size, linked_turns}
use Rattle.cob_move.proofs.linking.link_turns.Given as goal

abbrev pub invariant-loop-own : goal.invariant-loop-own
invariant-loop-own l = record {
  left : l.left ≡ linked_size (flow_lists (drop l.own-index l.turns));
  same : l.flows.items ++ linked_turns l.bound l.by l.number (flow_lists (drop l.own-index l.turns)) ≡ l.fn.flows.items ++ linked_turns l.bound l.by l.from (flow_lists l.turns);
}
