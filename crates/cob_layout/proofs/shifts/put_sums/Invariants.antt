use Rattle.std.proofs.Common.{◌≡◌, ◌+◌, ◌∷◌, [], length, take, drop}
use Rattle.cob_layout.specs.Shifts.{sums_by}
use Rattle.cob_layout.proofs.shifts.put_sums.Given as goal

abbrev pub invariant-loop-index : goal.invariant-loop-index
invariant-loop-index l = record {
  same : sums_by l.counts (drop l.index l.growths) (take (l.index + 1) l.sums) l.index ≡ sums_by l.counts l.growths (0 ∷ []) 0;
  room : length l.sums ≡ length l.fn.sums;
}
