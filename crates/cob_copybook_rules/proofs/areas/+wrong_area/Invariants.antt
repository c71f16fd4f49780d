use Rattle.std.proofs.Common.{[], ◌≤◌, ◌-◌, drop, take, map}
use Rattle.cob_copybook_tree.specs.Nodes.{node, forest}
use Rattle.cob_copybook_tree.specs.Lengths.{greatest_number, sum_of}
use Rattle.cob_limits.specs.Limits.{longest_record}
use Rattle.cob_copybook_rules.specs.Areas.{AreAreas, ArePossible}
use Rattle.cob_copybook_rules.specs.Short.{IsShortArea}
use Rattle.cob_copybook_rules.proofs.areas.+wrong_area.Given as goal

abbrev pub decreases-wrong_area : goal.decreases-wrong_area
decreases-wrong_area l = goal.size-wrong_area l

abbrev pub invariant-loop-i : goal.invariant-loop-i
invariant-loop-i l = record {
  order : l.start ≤ l.i;
  area : IsShortArea (map node (take (l.i - l.start) (drop l.start l.entries)));
  short : sum_of greatest_number (forest (drop l.i l.entries)) ≤ longest_record;
  possible : ArePossible (forest (drop l.i l.entries));
  left : AreAreas (map node (take (l.i - l.start) (drop l.start l.entries))) (forest (drop l.i l.entries)) → AreAreas [] (forest l.entries);
  whole : AreAreas [] (forest l.entries) → AreAreas (map node (take (l.i - l.start) (drop l.start l.entries))) (forest (drop l.i l.entries));
}
