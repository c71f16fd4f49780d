use Rattle.std.proofs.Common.{◌≡◌, ◌≤◌, take}
use Rattle.cob_back_losses.specs.Losses.{character_places}
use Rattle.cob_back_losses.proofs.characters.count_characters.Given as goal

abbrev pub invariant-loop-position : goal.invariant-loop-position
invariant-loop-position l = record {
  counted : l.count ≡ character_places (take l.position-index l.positions);
  few : l.count ≤ l.position-index;
}
