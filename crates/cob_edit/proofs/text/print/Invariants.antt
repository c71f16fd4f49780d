use Rattle.std.proofs.Common.{◌≡◌, ◌+◌, ◌++◌, take, drop, length, count_by}
use Rattle.cob_edit.specs.Places.{is_digit, has_byte}
use Rattle.cob_edit.specs.Editing.{printed}
use Rattle.cob_edit.proofs.text.print.Given as goal

abbrev pub invariant-loop-at : goal.invariant-loop-at
invariant-loop-at l = record {
  next : l.next ≡ count_by is_digit (take l.at l.places);
  room : l.written + count_by has_byte (drop l.at l.places) ≡ length l.out;
  text : take l.written l.out ++ printed l.places l.digits l.negative l.cut l.at (drop l.at l.places) ≡ printed l.places l.digits l.negative l.cut 0 l.places;
}
