use Rattle.std.proofs.Common.{◌≡◌, ◌-◌, ◌<◌, ◌≤◌, ℕ, Bool, List, length}
use Rattle.cob_back_losses.specs.Keeping.{IsMarked}
use Rattle.cob_back_losses.specs.Seen.{AreEnds}
use Rattle.cob_back_losses.proofs.later.covered_front.Given as goal

abbrev pub invariant-loop-at : goal.invariant-loop-at
invariant-loop-at l = record {
  low : l.start ≤ l.at;
  high : l.at ≤ l.end;
  front : (marks : List Bool) → AreEnds marks l.fn.ends → (byte : ℕ) → l.start ≤ byte → byte < l.at → IsMarked marks byte;
  ends : (marks : List Bool) → AreEnds marks l.fn.ends → AreEnds marks l.ends;
  room : length l.ends ≡ length l.fn.ends;
}

abbrev pub decreases-loop-at : goal.decreases-loop-at
decreases-loop-at l = l.end - l.at
