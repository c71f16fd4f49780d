-- The items so far are those of a key.
use Rattle.std.proofs.Common.{◌≡◌, length, map}
use Rattle.std.specs.List.{AllByRecursion}
use Rattle.cob_report_show.specs.Elements.{named_item}
use Rattle.cob_report_compare.specs.Keys.{IsKeyItem}
use Rattle.cob_report_compare.proofs.keys.key_items.Given as goal

abbrev pub invariant-loop-number : goal.invariant-loop-number
invariant-loop-number l = record {
  all : AllByRecursion (IsKeyItem (map named_item l.named)) (map named_item l.keys.items);
  count : length l.keys.items ≡ l.number-index;
}
