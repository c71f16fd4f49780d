use Rattle.std.proofs.Common.{◌≡◌, ◌+◌, ◌++◌, take, drop, length, count_by}
use Rattle.std.specs.List.{flat_map}
use Rattle.cob_edit.specs.Places.{has_byte}
use Rattle.cob_edit.specs.Editing.{empty_cell}
use Rattle.cob_edit.proofs.text.print_nothing.Given as goal

abbrev pub invariant-loop-place : goal.invariant-loop-place
invariant-loop-place l = record {
  room : l.written + count_by has_byte (drop l.place-index l.places) ≡ length l.out;
  text : take l.written l.out ++ flat_map (empty_cell l.stars) (drop l.place-index l.places) ≡ flat_map (empty_cell l.stars) l.places;
}
