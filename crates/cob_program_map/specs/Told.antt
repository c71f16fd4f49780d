-- The bytes by which single moves may lose their description.
use Rattle.std.specs.Prelude.{List, Option, map}
use Rattle.cob_back_moves.specs.Brought.{singles_in}
use Rattle.cob_back_moves.specs.Tested.{layout_records}
use Rattle.cob_back_moves.specs.declared.some.MovesBetween.{MovesBetween}
use Rattle.cob_back_losses.specs.declared.keeping.Unkept.{Unkept}
use Rattle.cob_back_losses.specs.Moved.{TellsEach, moved_single}

-- of each single move, in their order, the first byte by which it may lose its description is told, and none exactly where it may not
abbrev pub AreAllTold : MovesBetween → List (Option Unkept) → Type 0
AreAllTold m all = TellsEach m.layouts.output.now (map (moved_single (layout_records m.layouts)) (singles_in m)) all
