use Rattle.std.proofs.Common.{drop, map}
use Rattle.cob_copybook_tree.specs.Nodes.{node}
use Rattle.cob_copybook_rules.specs.Areas.{Bears}
use Rattle.cob_copybook_rules.proofs.areas.bears.Given as goal

abbrev pub invariant-loop-entry : goal.invariant-loop-entry
invariant-loop-entry l = record {
  left : Bears l.name l.level (map node (drop l.entry-index l.area)) → Bears l.name l.level (map node l.area);
  whole : Bears l.name l.level (map node l.area) → Bears l.name l.level (map node (drop l.entry-index l.area));
}
