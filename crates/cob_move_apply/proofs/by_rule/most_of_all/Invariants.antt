use Rattle.std.proofs.Common.{◌≤◌, ℕ, length}
use Rattle.std.specs.List.{AllByRecursion}
use Rattle.cob_move_apply.specs.ByRule.{most_receivers}
use Rattle.cob_move_apply.proofs.by_rule.most_of_all.Given as goal

abbrev pub invariant-loop-statement : goal.invariant-loop-statement
invariant-loop-statement l = (m : ℕ) → l.most ≤ m → AllByRecursion (λ s. most_receivers s ≤ m) l.left → AllByRecursion (λ s. most_receivers s ≤ m) l.statements

abbrev pub decreases-loop-statement : goal.decreases-loop-statement
decreases-loop-statement l = length l.left
