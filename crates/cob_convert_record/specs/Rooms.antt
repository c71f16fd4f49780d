-- Room for conversions.
use Rattle.cob_layout.specs.Standing.{RoomForCounts, room_for}
use Rattle.cob_move_data.specs.Moves.{Records}
use Rattle.cob_move_apply.specs.Room.{RoomForMoves, room_of}

-- how much room there is: that for moves, and that for the counts of the input record
pub record Capacity : Type 0 where
  pub moves : RoomForMoves
  pub inputs : RoomForCounts

-- what conversions between two records need: the room of their moves, and of the counts of the input
abbrev pub capacity_for : Records → Capacity
capacity_for records = record { moves = room_of records; inputs = room_for records.input }
