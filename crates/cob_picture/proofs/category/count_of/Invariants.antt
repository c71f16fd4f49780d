use Rattle.std.proofs.Common.{◌≡◌, ◌*◌, ◌≤◌, take}
use Rattle.cob_picture.specs.Positions.{written_out, symbol_count}
use Rattle.cob_picture.proofs.category.count_of.Given as goal

abbrev pub invariant-loop-run : goal.invariant-loop-run
invariant-loop-run l = record {
  value : l.count ≡ symbol_count l.symbol (written_out (take l.run-index l.runs));
  bound : l.count ≤ 65535 * l.run-index;
}
