use Rattle.std.proofs.Common.{◌≡◌, ◌≤◌, ◌++◌, ℕ, map, take, length, Some}
use Rattle.cob_copybook_names.specs.Links.{BearsAt, entries_up_to}
use Rattle.cob_copybook_names.specs.Naming.{named, own_names}
use Rattle.cob_copybook_names.specs.Listed.{found_list, seen}
use Rattle.cob_copybook_names.proofs.directory.Directory.only_named.Given as goal

abbrev pub decreases-loop-place : goal.decreases-loop-place
decreases-loop-place g l = entries_up_to l.place

abbrev pub invariant-loop-place : goal.invariant-loop-place
invariant-loop-place g l = record {
  inside : entries_up_to l.place ≤ length l.self.bearers.items;
  borne : (p : ℕ) → l.place ≡ Some p → BearsAt (own_names (map seen l.self.bearers.items)) l.name p;
  whole : named l.name (g.Q.Qualifiers.names l.qualifiers) (map seen l.self.bearers.items)
      ≡ named l.name (g.Q.Qualifiers.names l.qualifiers) (take (entries_up_to l.place) (map seen l.self.bearers.items)) ++ found_list l.found;
}
