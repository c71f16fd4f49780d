use Rattle.std.proofs.Common.{◌≡◌, List, ℕ, length, map}
use Rattle.cob_copybook_names.specs.Links.{IsLast, AreLinked, noted_for}
use Rattle.cob_copybook_names.specs.Naming.{own_names}
use Rattle.cob_copybook_names.specs.Listed.{seen}
use Rattle.cob_copybook_names.proofs.directory.Directory.new.Given as goal

abbrev pub invariant-loop-place : goal.invariant-loop-place
invariant-loop-place g l = record {
  sized : length l.earlier.items ≡ l.place;
  linked : AreLinked (own_names (map seen l.fn.bearers.items)) l.earlier.items l.place;
  latest : (name : List ℕ) → IsLast (own_names (map seen l.fn.bearers.items)) name l.place (noted_for l.last name);
}
