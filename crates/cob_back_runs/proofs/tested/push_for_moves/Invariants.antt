use Rattle.std.proofs.Common.{◌≡◌, ◌++◌, length, replicate}
use Rattle.cob_back_runs.specs.Tested.{moves_counted}
use Rattle.cob_back_runs.proofs.tested.push_for_moves.Given as goal

abbrev pub invariant-loop-statement : goal.invariant-loop-statement
invariant-loop-statement l = l.marks.items ++ replicate (moves_counted l.rest) l.mark ≡ l.initial.marks.items ++ replicate (moves_counted l.statements) l.mark

abbrev pub decreases-loop-statement : goal.decreases-loop-statement
decreases-loop-statement l = length l.rest
