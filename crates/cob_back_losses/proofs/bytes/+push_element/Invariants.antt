use Rattle.std.proofs.Common.{◌≡◌, ◌≤◌, ◌++◌, ◌+◌, ◌-◌, length, map, take}
use Rattle.cob_copybook_tree.specs.Nodes.{forest, node}
use Rattle.cob_layout_places.proofs.ForestLemmas.{left}
use Rattle.cob_layout_places.specs.Cover.{several}
use Rattle.cob_back_losses.specs.Bytes.{bytes_beneath, element_bytes, item_byte}
use Rattle.cob_back_losses.proofs.bytes.+push_element.Given as goal

abbrev pub decreases-push_element : goal.decreases-push_element
decreases-push_element l = goal.size-push_element l

abbrev pub invariant-loop-child : goal.invariant-loop-child
invariant-loop-child l = record {
  left : take l.limit (map item_byte l.bytes.items ++ bytes_beneath (left l.child-items l.child-index)) ≡ take l.limit (map item_byte l.fn.bytes.items ++ bytes_beneath (forest l.child-items));
  short : length l.bytes.items ≤ l.limit;
}

abbrev pub invariant-loop : goal.invariant-loop
invariant-loop l = record {
  left : take l.limit (map item_byte l.bytes.items ++ (several (λ k. element_bytes (node l.child)) (l.end - l.counter) ++ bytes_beneath (left l.child-items (l.child-index + 1))))
      ≡ take l.limit (map item_byte l.fn.bytes.items ++ bytes_beneath (forest l.child-items));
  short : length l.bytes.items ≤ l.limit;
  more : l.counter ≤ l.end;
}
