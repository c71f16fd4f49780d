use Rattle.std.proofs.Common.{◌≡◌, ◌*◌, ◌<◌, length, take}
use Rattle.cob_move_receive.specs.Characters.{repeated}
use Rattle.cob_move_initial.proofs.storage.repeat.Given as goal

abbrev pub invariant-loop-element : goal.invariant-loop-element
invariant-loop-element l = record {
  front : take (l.element * l.size) l.bytes ≡ repeated l.element (take l.size l.fn.bytes);
  some : 0 < l.element;
  first : take l.size l.bytes ≡ take l.size l.fn.bytes;
  room : length l.bytes ≡ length l.fn.bytes;
}
