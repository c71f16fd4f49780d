use Rattle.std.proofs.Common.{◌≡◌, ◌*◌, ◌≤◌, take}
use Rattle.cob_picture.specs.Positions.{written_out}
use Rattle.cob_picture.specs.Measures.{symbols_size}
use Rattle.cob_picture.proofs.counts.size_of.Given as goal

abbrev pub invariant-loop-run : goal.invariant-loop-run
invariant-loop-run l = record {
  value : l.total ≡ symbols_size (written_out (take l.run-index l.runs));
  bound : l.total ≤ 131070 * l.run-index;
}
