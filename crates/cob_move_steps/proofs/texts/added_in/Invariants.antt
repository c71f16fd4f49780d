use Rattle.std.proofs.Common.{◌≡◌, ℕ, ◌+◌, ◌<◌, length, get_or}
use Rattle.cob_move_steps.specs.Texts.{added_to, cell_in}
use Rattle.cob_move_steps.proofs.texts.added_in.Given as goal

abbrev pub invariant-loop-at : goal.invariant-loop-at
invariant-loop-at l = record {
  long : length l.added ≡ 16;
  each : (i : ℕ) → i < l.at → get_or l.added i 0 ≡ added_to l.negative (cell_in l.row (l.start + i));
  small : (i : ℕ) → i < l.at → added_to l.negative (cell_in l.row (l.start + i)) < 256;
}
