use Rattle.std.proofs.Common.{◌≡◌, take}
use Rattle.cob_picture.proofs.picture.Picture.clone.Given as goal

abbrev pub invariant-loop-run : goal.invariant-loop-run
invariant-loop-run l = l.runs.items ≡ take l.run-index l.run-items
