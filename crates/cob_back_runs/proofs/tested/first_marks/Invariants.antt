use Rattle.std.proofs.Common.{◌≡◌, ◌++◌, length}
use Rattle.cob_back_runs.specs.Tested.{statement_marks}
use Rattle.cob_back_runs.proofs.tested.first_marks.Given as goal

abbrev pub invariant-loop-statement : goal.invariant-loop-statement
invariant-loop-statement l = l.firsts.items ++ statement_marks l.rest l.left ≡ statement_marks l.marks l.statements

abbrev pub decreases-loop-statement : goal.decreases-loop-statement
decreases-loop-statement l = length l.left
