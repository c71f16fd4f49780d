use Rattle.std.proofs.Common.{drop}
use Rattle.cob_copybook_tree.specs.Branches.{forest_of}
use Rattle.cob_copybook_rules.specs.Tables.{AreTables}
use Rattle.cob_copybook_rules.proofs.tables.+wrong_table.Given as goal

abbrev pub decreases-wrong_table : goal.decreases-wrong_table
decreases-wrong_table l = goal.size-wrong_table l

abbrev pub invariant-loop-branch : goal.invariant-loop-branch
invariant-loop-branch l = record {
  left : AreTables l.dimensions (forest_of (drop l.branch-index l.branches)) → AreTables l.dimensions (forest_of l.branches);
  whole : AreTables l.dimensions (forest_of l.branches) → AreTables l.dimensions (forest_of (drop l.branch-index l.branches));
}
