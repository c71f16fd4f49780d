-- The room that moves are carried out in.
use Rattle.std.specs.Prelude.{ℕ, List, Option}
use Rattle.cob_layout.specs.declared.counts.StoredCount.{StoredCount}
use Rattle.cob_layout.specs.Standing.{RoomForCounts, room_for}
use Rattle.cob_layout.specs.Storage.{greatest_length}
use Rattle.cob_move_data.specs.Moves.{Records}

-- for the counts of either record, and for so many bytes of a sender
pub record RoomForMoves : Type 0 where
  pub inputs : RoomForCounts
  pub outputs : RoomForCounts
  pub content : ℕ

-- The room for moves between two records: for the counts of either, and the bytes of the output record.
abbrev pub room_of : Records → RoomForMoves
room_of records = record {
  inputs = room_for records.input;
  outputs = room_for records.output;
  content = greatest_length records.output;
}

-- the room that there is, how many count items of the output record were read, and what is kept of the counts of either record's storage
pub record Scratching : Type 0 where
  pub room : RoomForMoves
  pub reads : ℕ
  pub kept_input : List (Option StoredCount)
  pub kept_output : List (Option StoredCount)
