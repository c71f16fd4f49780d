-- The room that single moves are carried out in.
use Rattle.std.specs.Prelude.{◌≡◌, length}
use Rattle.cob_layout.specs.Standing.{IsRoomFor}
use Rattle.cob_layout.specs.Storage.{greatest_length}
use Rattle.cob_move_data.specs.Moves.{Records}
use Rattle.cob_report_explain.specs.declared.room.EachRoom.{EachRoom}

-- there is room for the counts of either record, and for the bytes of a sender that lies in the output record
pub record HasEachRoom (r : Records) (room : EachRoom) : Type 0 where
  pub inputs : IsRoomFor r.input room.in_counts
  pub outputs : IsRoomFor r.output room.out_counts
  pub bytes : length room.content.items ≡ greatest_length r.output
