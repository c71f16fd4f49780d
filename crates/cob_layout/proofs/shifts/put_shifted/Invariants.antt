use Rattle.std.proofs.Common.{◌≡◌, ◌++◌, length, take, drop}
use Rattle.cob_layout.specs.Shifts.{all_shifted}
use Rattle.cob_layout.proofs.shifts.put_shifted.Given as goal

abbrev pub invariant-loop-index : goal.invariant-loop-index
invariant-loop-index l = record {
  same : take l.index l.spots ++ all_shifted l.sums l.counts l.index (drop l.index l.shifts) (drop l.index l.least) ≡ all_shifted l.sums l.counts 0 l.shifts l.least;
  room : length l.spots ≡ length l.fn.spots;
}
