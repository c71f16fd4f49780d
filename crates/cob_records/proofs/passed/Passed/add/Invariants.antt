use Rattle.std.proofs.Common.{◌≡◌, ◌≤◌, ◌-◌, ◌++◌, List, ℕ, length, take}
use Rattle.cob_records.specs.Progress.{HasPassed}
use Rattle.cob_records.proofs.passed.Passed.add.Given as goal

abbrev pub invariant-loop-at : goal.invariant-loop-at
invariant-loop-at l = record {
  within : l.at ≤ length l.piece;
  passed : (bytes : List ℕ) → HasPassed bytes l.initial.self → HasPassed (bytes ++ take l.at l.piece) l.self;
  form : l.self.form ≡ l.initial.self.form;
  greatest : l.self.greatest ≡ l.initial.self.greatest;
}

abbrev pub decreases-loop-at : goal.decreases-loop-at
decreases-loop-at l = length l.initial.piece - l.at
