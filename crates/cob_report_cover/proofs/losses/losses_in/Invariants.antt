use Rattle.std.proofs.Common.{List, ◌++◌}
use Rattle.cob_back_losses.specs.declared.losses.Losses.{Losses}
use Rattle.cob_move_data.specs.Singles.{singles_of}
use Rattle.cob_report_cover.specs.Losing.{AreLossesOfEach}
use Rattle.cob_report_cover.proofs.losses.losses_in.Given as goal

abbrev pub invariant-loop-single : goal.invariant-loop-single
invariant-loop-single l =
    (rest : List Losses) → AreLossesOfEach l.moves.layouts l.single-iterator rest
    → AreLossesOfEach l.moves.layouts (singles_of l.moves.statements.now) (l.losses.items ++ rest)
