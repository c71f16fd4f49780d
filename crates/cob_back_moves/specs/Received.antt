-- Occurrences that receive in single moves, as the code knows them.
use Rattle.std.specs.Prelude.{◌≡◌, List, [], ◌∷◌}
use Rattle.cob_codec.specs.declared.reading.Reading.{Reading}
use Rattle.cob_layout_places.specs.Cover.{Occurrence}
use Rattle.cob_move_data.specs.Moves.{Records, moves_by}
use Rattle.cob_move_data.specs.declared.operands.StatementMoves.{StatementMoves}
use Rattle.cob_move_data.specs.Singles.{SingleMove, all_singles, occurrence_of}
use Rattle.cob_back_moves.specs.Singles.{Receives}

-- the single moves of statements
abbrev pub singles_by : Reading → Records → List StatementMoves → List SingleMove
singles_by y r statements = all_singles (moves_by y r statements)

-- the occurrence receives in no two of these
abbrev pub ReceivesOnce : Occurrence → List SingleMove → Type 0
ReceivesOnce x [] = Unit {0}
ReceivesOnce x (s ∷ ss) = (occurrence_of s.receiver ≡ x → Receives x ss → ⊥) × ReceivesOnce x ss
