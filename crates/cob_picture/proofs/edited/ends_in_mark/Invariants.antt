use Rattle.std.proofs.Common.{◌≡◌, take}
use Rattle.cob_picture.specs.Runs.{runs_end_in_mark}
use Rattle.cob_picture.proofs.edited.ends_in_mark.Given as goal

abbrev pub invariant-loop-run : goal.invariant-loop-run
invariant-loop-run l = l.mark ≡ runs_end_in_mark (take l.run-index l.runs)
