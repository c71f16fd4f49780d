use Rattle.std.proofs.Common.{length}
use Rattle.cob_test_rows.proofs.bytes.unescaped.Given as goal

abbrev pub decreases-loop-first : goal.decreases-loop-first
decreases-loop-first l = length l.rest
