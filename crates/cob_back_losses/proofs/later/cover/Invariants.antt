use Rattle.std.proofs.Common.{◌≡◌, ℕ, ◌-◌, false, get_or, length}
use Rattle.std.specs.Prelude.{◌||◌}
use Rattle.cob_layout_places.specs.Cover.{holds}
use Rattle.cob_back_losses.proofs.later.cover.Given as goal

abbrev pub invariant-loop-at : goal.invariant-loop-at
invariant-loop-at l = record {
  marked : (byte : ℕ) → get_or l.marks byte false ≡ (holds byte l.start (l.at - l.start) || get_or l.fn.marks byte false);
  room : length l.marks ≡ length l.fn.marks;
}
