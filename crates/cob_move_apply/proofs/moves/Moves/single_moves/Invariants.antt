use Rattle.std.proofs.Common.{◌≡◌, ◌+◌, drop, min}
use Rattle.cob_codec.specs.declared.reading.Reading.{Reading}
use Rattle.cob_move_data.specs.Moves.{Records, moves_by}
use Rattle.cob_move_apply.specs.Told.{most_moves_told, single_moves}
use Rattle.cob_move_apply.proofs.moves.Moves.single_moves.Given as goal

abbrev pub invariant-loop-one : goal.invariant-loop-one
invariant-loop-one l = (x : Reading) (r : Records) → min (l.count + single_moves (moves_by x r (drop l.one-index l.one-items))) most_moves_told ≡ min (single_moves (moves_by x r l.one-items)) most_moves_told
