use Rattle.std.proofs.Common.{◌≡◌, ◌≤◌, ◌++◌, ℕ, take, length, Some}
use Rattle.cob_copybook_names.specs.Links.{BearsAt, entries_up_to}
use Rattle.cob_move_names.specs.PlainPairs.{subordinate, subordinates_listed}
use Rattle.cob_move_names.specs.Pairs.{partners}
use Rattle.cob_move_names.specs.Partners.{names_listed, partner_list}
use Rattle.cob_move_names.proofs.partners.Partners.partner_of.Given as goal

abbrev pub decreases-loop-place : goal.decreases-loop-place
decreases-loop-place l = entries_up_to l.place

abbrev pub invariant-loop-place : goal.invariant-loop-place
invariant-loop-place l = record {
  inside : entries_up_to l.place ≤ length l.self.entries.items;
  borne : (p : ℕ) → l.place ≡ Some p → BearsAt (names_listed (subordinates_listed l.self.entries.items)) (subordinate l.from).name p;
  whole : partners (subordinates_listed l.self.entries.items) (subordinate l.from)
      ≡ partners (take (entries_up_to l.place) (subordinates_listed l.self.entries.items)) (subordinate l.from) ++ partner_list l.found;
}
