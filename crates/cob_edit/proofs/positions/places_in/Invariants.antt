use Rattle.std.proofs.Common.{◌≡◌, ◌++◌, drop}
use Rattle.cob_edit.specs.Pictured.{places}
use Rattle.cob_edit.proofs.positions.places_in.Given as goal

abbrev pub invariant-loop-position : goal.invariant-loop-position
invariant-loop-position l = l.places.items ++ places (drop l.position-index l.positions) ≡ places l.positions
