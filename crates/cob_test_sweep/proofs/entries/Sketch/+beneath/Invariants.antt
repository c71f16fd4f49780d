use Rattle.std.proofs.Common.{◌-◌}
use Rattle.cob_test_sweep.proofs.entries.Sketch.+beneath.Given as goal

-- how many levels may still stand beneath
abbrev pub decreases-beneath : goal.decreases-beneath
decreases-beneath l = 4 - l.depth
