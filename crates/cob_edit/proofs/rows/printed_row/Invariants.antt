use Rattle.std.proofs.Common.{◌≡◌, ℕ, ◌+◌, ◌++◌, Bool, ◌&&◌, List, take, drop, length, count_by}
use Rattle.cob_edit.specs.Places.{is_digit, has_byte, bytes_of}
use Rattle.cob_edit.specs.Editing.{printed}
use Rattle.cob_edit.specs.Rows.{row_bytes}
use Rattle.cob_edit.proofs.rows.printed_row.Given as goal

abbrev pub invariant-loop-at : goal.invariant-loop-at
invariant-loop-at l = record {
  next : l.next ≡ count_by is_digit (take l.at l.places);
  room : length l.row.items + count_by has_byte (drop l.at l.places) ≡ bytes_of l.places;
  text : (ds : List ℕ) (negative : Bool) → row_bytes ds negative l.row.items ++ printed l.places ds (negative && l.shows) l.cut l.at (drop l.at l.places) ≡ printed l.places ds (negative && l.shows) l.cut 0 l.places;
}
