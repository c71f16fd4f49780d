use Rattle.std.proofs.Common.{◌≡◌}
use Rattle.std.specs.List.{slice_get}
use Rattle.cob_picture.specs.Positions.{written_out}
use Rattle.cob_back_moves.proofs.RunLemmas.{behind}
use Rattle.cob_back_moves.proofs.same_pictures.symbol_at.Given as goal

abbrev pub invariant-loop-run : goal.invariant-loop-run
invariant-loop-run l = slice_get (written_out l.runs) l.place ≡ slice_get (behind l.runs l.run-index) l.left
