use Rattle.std.proofs.Common.{◌≡◌, ℕ, ◌+◌, ◌++◌, Bool, List, drop, length, count_by}
use Rattle.std.specs.List.{flat_map}
use Rattle.cob_edit.specs.Places.{has_byte, bytes_of}
use Rattle.cob_edit.specs.Editing.{empty_cell}
use Rattle.cob_edit.specs.Rows.{row_bytes}
use Rattle.cob_edit.proofs.rows.empty_row.Given as goal

abbrev pub invariant-loop-place : goal.invariant-loop-place
invariant-loop-place l = record {
  room : length l.row.items + count_by has_byte (drop l.place-index l.places) ≡ bytes_of l.places;
  text : (ds : List ℕ) (negative : Bool) → row_bytes ds negative l.row.items ++ flat_map (empty_cell l.stars) (drop l.place-index l.places) ≡ flat_map (empty_cell l.stars) l.places;
}
