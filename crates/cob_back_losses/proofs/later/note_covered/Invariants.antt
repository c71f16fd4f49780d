use Rattle.std.proofs.Common.{◌≡◌, ◌+◌, ◌<◌, ◌≤◌, ℕ, Bool, List, length}
use Rattle.cob_back_losses.specs.Keeping.{IsMarked}
use Rattle.cob_back_losses.specs.Seen.{AreEnds}
use Rattle.cob_back_losses.proofs.later.note_covered.Given as goal

abbrev pub invariant-loop-at : goal.invariant-loop-at
invariant-loop-at l = record {
  ends : (marks : List Bool) → AreEnds marks l.fn.ends → ((byte : ℕ) → l.fn.place.offset ≤ byte → byte < l.fn.place.offset + l.fn.place.length → IsMarked marks byte) → AreEnds marks l.ends;
  room : length l.ends ≡ length l.fn.ends;
}
