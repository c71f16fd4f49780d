use Rattle.std.proofs.Common.{◌≡◌, List, ℕ, length}
use Rattle.cob_copybook_names.specs.Links.{IsLast, AreLinked, noted_for}
use Rattle.cob_move_names.specs.PlainPairs.{subordinates_listed}
use Rattle.cob_move_names.specs.Partners.{names_listed}
use Rattle.cob_move_names.proofs.partners.Partners.of.Given as goal

abbrev pub invariant-loop-place : goal.invariant-loop-place
invariant-loop-place l = record {
  sized : length l.earlier.items ≡ l.place;
  linked : AreLinked (names_listed (subordinates_listed l.fn.entries.items)) l.earlier.items l.place;
  latest : (name : List ℕ) → IsLast (names_listed (subordinates_listed l.fn.entries.items)) name l.place (noted_for l.last name);
}
