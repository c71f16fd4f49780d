use Rattle.std.proofs.Common.{drop}
use Rattle.cob_copybook_tree.specs.Nodes.{forest}
use Rattle.cob_copybook_rules.specs.Values.{AreValues}
use Rattle.cob_copybook_rules.proofs.values.+wrong_value.Given as goal

abbrev pub decreases-wrong_value : goal.decreases-wrong_value
decreases-wrong_value l = goal.size-wrong_value l

abbrev pub invariant-loop-entry : goal.invariant-loop-entry
invariant-loop-entry l = record {
  left : AreValues l.redefined l.valued (forest (drop l.entry-index l.entries)) → AreValues l.redefined l.valued (forest l.entries);
  whole : AreValues l.redefined l.valued (forest l.entries) → AreValues l.redefined l.valued (forest (drop l.entry-index l.entries));
}
