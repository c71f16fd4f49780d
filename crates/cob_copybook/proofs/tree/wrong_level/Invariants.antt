use Rattle.std.proofs.Common.{map}
use Rattle.std.specs.List.{AllByRecursion}
use Rattle.std.specs.Prelude.{drop}
use Rattle.cob_copybook_entry.specs.Described.{plain_entry}
use Rattle.cob_copybook_tree.specs.Branches.{IsBelow}
use Rattle.cob_copybook.proofs.tree.wrong_level.Given as goal

-- what is left decides for all
abbrev pub invariant-loop-entry : goal.invariant-loop-entry
invariant-loop-entry l = record {
  left : AllByRecursion IsBelow (map plain_entry (drop l.entry-index l.others)) → AllByRecursion IsBelow (map plain_entry l.others);
  whole : AllByRecursion IsBelow (map plain_entry l.others) → AllByRecursion IsBelow (map plain_entry (drop l.entry-index l.others));
}
