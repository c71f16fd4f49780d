use Rattle.std.proofs.Common.{ℕ, ◌<◌, map}
use Rattle.cob_back_losses.specs.Bytes.{item_byte}
use Rattle.cob_back_losses.specs.Keeping.{KeepsByte, IsMarked, sent_element}
use Rattle.cob_back_losses.proofs.keeping.first_unkept.Given as goal

abbrev pub invariant-loop-at : goal.invariant-loop-at
invariant-loop-at l = (k : ℕ) → k < l.at → KeepsByte (sent_element l.from) (map item_byte l.received) (IsMarked l.covered) k
