use Rattle.std.proofs.Common.{◌≡◌, ◌<◌, ℕ, List, false, nat_lt, get_or, length}
use Rattle.std.specs.List.{list_any}
use Rattle.cob_layout.specs.declared.fields.Place.{Place}
use Rattle.cob_report_cover.specs.Covered.{has_offset}
use Rattle.cob_report_cover.specs.Reaches.{AreReaches}
use Rattle.cob_report_cover.proofs.SweepLemmas.{passes}
use Rattle.cob_report_cover.proofs.sweep.swept.Given as goal

abbrev pub invariant-loop-reach : goal.invariant-loop-reach
invariant-loop-reach l = record {
  long : length l.marks.items ≡ l.reach-index;
  marks : (ps : List Place) → AreReaches ps l.reaches → (o : ℕ) → o < length l.marks.items → get_or l.marks.items o false ≡ list_any (has_offset o) ps;
  left : (ps : List Place) → AreReaches ps l.reaches → (n : ℕ) → nat_lt n l.left ≡ list_any (passes l.reach-index n) ps;
}
