use Rattle.std.proofs.Common.{◌≡◌, ◌<◌, ℕ, length}
use Rattle.std.specs.Prelude.{slice_index_or}
use Rattle.cob_layout.specs.declared.footings.Footing.{Footing}
use Rattle.cob_layout.specs.Footings.{footing_of}
use Rattle.cob_layout.proofs.footings.footings.Given as goal

abbrev pub invariant-loop-number : goal.invariant-loop-number
invariant-loop-number l = record {
  as_many : length l.all.items ≡ l.number;
  each : (r : ℕ) (d : Footing) → r < l.number → slice_index_or l.all.items r d ≡ footing_of l.ways l.shifts l.least r;
}
