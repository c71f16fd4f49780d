use Rattle.std.proofs.Common.{◌≡◌, ◌++◌, map}
use Rattle.cob_back_moves.specs.Tested.{layout_records}
use Rattle.cob_move_data.specs.Singles.{singles_of}
use Rattle.cob_back_losses.specs.Seen.{moved_by, seen_single}
use Rattle.cob_back_losses.proofs.singles.singles_by.Given as goal

abbrev pub invariant-loop-single : goal.invariant-loop-single
invariant-loop-single l =
    map seen_single l.singles.items ++ map (moved_by (layout_records l.layouts)) l.single-iterator ≡ map (moved_by (layout_records l.layouts)) (singles_of l.statements)
