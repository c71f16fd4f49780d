-- Where the conversion of a record stops, and the room to find out.
use Rattle.std.specs.Prelude.{◌≡◌, ◌≤◌, ℕ, List, length, take}
use Rattle.cob_copybook_tree.specs.Forests.{Forest}
use Rattle.cob_copybook_tree.specs.Nodes.{Resolved}
use Rattle.cob_layout.specs.Standing.{IsRoomFor}
use Rattle.cob_layout.specs.Storage.{IsStorage}
use Rattle.cob_move_data.specs.Moves.{Records}
use Rattle.cob_move_apply.specs.declared.stop.Stop.{Stop}
use Rattle.cob_move_apply.specs.Room.{room_of}
use Rattle.cob_records_parts.specs.declared.numbered.Numbered.{Numbered}
use Rattle.cob_records_parts.specs.declared.numbered.Numbered.TheVariants.{Fewer, Record}
use Rattle.cob_report_explain.specs.Room.{HasEachRoom}
use Rattle.cob_report_explain.specs.declared.walk.RecordStop.{RecordStop}
use Rattle.cob_report_explain.specs.declared.walk.RecordStop.TheVariants as stop
use Rattle.cob_report_explain.specs.declared.walk.WalkRoom.{WalkRoom}

-- the stop that a run tells
abbrev pub plain_stop : RecordStop → Stop
plain_stop (stop.AtMove at) = at.stop
plain_stop (stop.AtTest at) = at.stop
plain_stop (stop.AtCondition at) = at.stop
plain_stop (stop.BehindMoves at) = at

-- there is room for single moves, for the bounds of loops and the entries of conditions, and for the counts of the output record
pub record HasWalkRoom (r : Records) (room : WalkRoom) : Type 0 where
  pub each : HasEachRoom r room.each
  pub tests : room.scratch.room ≡ room_of r
  pub outputs : IsRoomFor r.output room.out_counts

-- what is found in a slice: a record of these entries at its front, or that there are only so many records
abbrev pub HoldsFound : Forest Resolved → List ℕ → Numbered → Type 0
HoldsFound tree slice (Record count) = (count ≤ length slice) × IsStorage tree (take count slice)
HoldsFound tree slice (Fewer records) = Unit {0}
