use Rattle.std.proofs.Common.{◌≡◌, ◌+◌, ◌++◌, map, length, drop}
use Rattle.cob_copybook_tree.specs.Forests.{flat, entries_in}
use Rattle.cob_copybook_tree.specs.Branches.{forest_of}
use Rattle.cob_copybook_names.specs.Entries.{bearer_of, bearers, entry_of}
use Rattle.cob_copybook_names.specs.Listed.{texts}
use Rattle.cob_copybook_names.proofs.listing.+list_bearers.Given as goal

abbrev pub decreases-list_bearers : goal.decreases-list_bearers
decreases-list_bearers l = entries_in (forest_of l.branches.now)

abbrev pub invariant-loop-branch : goal.invariant-loop-branch
invariant-loop-branch l = record {
  room : length l.fn.listed.items + entries_in (forest_of l.branches) ≡ length l.listed.items + entries_in (forest_of (drop l.branch-index l.branches));
  names : map bearer_of l.fn.listed.items ++ bearers (texts l.above) l.in_table (length l.fn.listed.items) (forest_of l.branches) ≡ map bearer_of l.listed.items ++ bearers (texts l.above) l.in_table (length l.listed.items) (forest_of (drop l.branch-index l.branches));
  written : map entry_of l.fn.listed.items ++ flat (forest_of l.branches) ≡ map entry_of l.listed.items ++ flat (forest_of (drop l.branch-index l.branches));
}
