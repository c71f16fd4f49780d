use Rattle.std.proofs.Common.{◌≡◌, ◌≤◌, length, take}
use Rattle.cob_picture.specs.Positions.{written_out}
use Rattle.cob_picture.specs.Runs.{ArePositive}
use Rattle.cob_picture.specs.Edited.{unscaled}
use Rattle.cob_picture.proofs.edited.unscaled.Given as goal

abbrev pub invariant-loop-run : goal.invariant-loop-run
invariant-loop-run l = record {
  symbols : written_out l.kept.items ≡ unscaled (written_out (take l.run-index l.runs));
  few : length l.kept.items ≤ l.run-index;
  positive : ArePositive l.kept.items;
}
