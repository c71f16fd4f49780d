use Rattle.std.proofs.Common.{◌≡◌, ◌≤◌, ◌++◌, length, map, take}
use Rattle.cob_back_losses.specs.Bytes.{item_byte, item_bytes}
use Rattle.cob_back_losses.proofs.bytes.push_item.Given as goal

abbrev pub invariant-loop-at : goal.invariant-loop-at
invariant-loop-at l = record {
  put : map item_byte l.bytes.items ≡ take l.limit (map item_byte l.fn.bytes.items ++ item_bytes l.number l.item l.at);
  short : length l.bytes.items ≤ l.limit;
}
