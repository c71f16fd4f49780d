use Rattle.std.proofs.Common.{◌≡◌, ◌≤◌, length, ◌+◌, ◌*◌}
use Rattle.cob_picture.specs.Positions.{written_out}
use Rattle.cob_back_moves.proofs.RunLemmas.{behind}
use Rattle.cob_back_moves.proofs.same_pictures.symbols_in.Given as goal

abbrev pub invariant-loop-run : goal.invariant-loop-run
invariant-loop-run l = record {
  all : l.count + length (behind l.runs l.run-index) ≡ length (written_out l.runs);
  small : l.count ≤ l.run-index * 65535;
}
