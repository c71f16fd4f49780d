use Rattle.std.proofs.Common.{◌≡◌, ◌++◌, ◌≤◌, take, drop, length}
use Rattle.cob_edit.specs.Characters.{characters_from}
use Rattle.cob_edit.proofs.spelling.spell.Given as goal

abbrev pub invariant-loop-at : goal.invariant-loop-at
invariant-loop-at l = record {
  long : length l.out ≡ length l.positions;
  bound : l.next ≤ l.at;
  text : take l.at l.out ++ characters_from (drop l.at l.positions) (drop l.next l.sender) ≡ characters_from l.positions l.sender;
}
