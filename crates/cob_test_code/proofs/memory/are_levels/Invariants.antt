use Rattle.std.proofs.Common.{map, drop}
use Rattle.std.specs.List.{AllByRecursion}
use Rattle.cob_copybook_entry.specs.Described.{plain_entry}
use Rattle.cob_copybook_tree.specs.Branches.{IsBelow}
use Rattle.cob_test_code.proofs.memory.are_levels.Given as goal

abbrev pub invariant-loop-entry : goal.invariant-loop-entry
invariant-loop-entry l = AllByRecursion IsBelow (map plain_entry (drop l.entry-index l.others)) → AllByRecursion IsBelow (map plain_entry l.others)
