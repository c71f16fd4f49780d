use Rattle.std.proofs.Common.{length}
use Rattle.cob_test_sweep.proofs.values.+push_elements.Given as goal

abbrev pub decreases-push_elements : goal.decreases-push_elements
decreases-push_elements l = length l.entries.now
