use Rattle.std.proofs.Common.{◌≡◌, List, ℕ, Option, ◌++◌, map, drop}
use Rattle.cob_copybook_names.specs.Counts.{AreCounts}
use Rattle.cob_copybook_names.specs.Entries.{bearer_of, entry_of}
use Rattle.cob_copybook_names.proofs.count.counts_of.Given as goal

abbrev pub invariant-loop-number : goal.invariant-loop-number
invariant-loop-number l = record {
  left : (cs : List (Option ℕ)) → AreCounts (map bearer_of l.directory.bearers.items) l.number (map entry_of (drop l.number l.directory.bearers.items)) cs → AreCounts (map bearer_of l.directory.bearers.items) 0 (map entry_of l.directory.bearers.items) (l.counts.items ++ cs);
  whole : (cs : List (Option ℕ)) → AreCounts (map bearer_of l.directory.bearers.items) 0 (map entry_of l.directory.bearers.items) cs → (more : List (Option ℕ)) × (cs ≡ l.counts.items ++ more) × AreCounts (map bearer_of l.directory.bearers.items) l.number (map entry_of (drop l.number l.directory.bearers.items)) more;
}
