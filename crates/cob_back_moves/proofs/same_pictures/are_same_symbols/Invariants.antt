use Rattle.std.proofs.Common.{◌≡◌, ◌<◌, ℕ}
use Rattle.std.specs.List.{slice_get}
use Rattle.cob_picture.specs.Positions.{written_out}
use Rattle.cob_back_moves.proofs.same_pictures.are_same_symbols.Given as goal

abbrev pub invariant-loop-place : goal.invariant-loop-place
invariant-loop-place l = (k : ℕ) → k < l.place → slice_get (written_out l.runs) k ≡ slice_get (written_out l.others) k
