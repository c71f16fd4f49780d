-- Moves that are ready to be carried out.
use Rattle.std.specs.Prelude.{◌≡◌, List}
use Rattle.cob_codec.specs.declared.reading.Reading.{Reading}
use Rattle.cob_move_data.specs.Moves.{AreMoves, Move, Records, moves_by}
use Rattle.cob_move_apply.specs.declared.moves.Moves.{Moves}
use Rattle.cob_move_apply.specs.Joined.{steps_in}
use Rattle.cob_move_apply.specs.Planned.{counted_steps}
use Rattle.cob_move_apply.specs.Steps.{StandFor, support_of}
pub use Rattle.cob_move_apply.specs.Told.{most_moves_told, single_moves}

-- the moves between two records that were made ready, in their order, their senders read as they are to be
abbrev pub moves_of : Records → Moves → List Move
moves_of r m = moves_by m.reading r m.statements.items

-- whatever the reading, they are moves between these records, and the plan's steps stand for them and are as many as these make
abbrev pub ArePrepared : Records → Moves → Type 0
ArePrepared r m = (reading : Reading)
    → StandFor reading r m.statements.items m.plan.steps.items (support_of m.plan) (moves_by reading r m.statements.items)
    × (counted_steps m.plan.steps.items ≡ steps_in r (moves_by reading r m.statements.items))
    × AreMoves r (moves_by reading r m.statements.items)
