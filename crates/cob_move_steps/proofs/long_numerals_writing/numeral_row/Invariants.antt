use Rattle.std.proofs.Common.{◌≡◌, ℕ, ◌<◌, length, get_or}
use Rattle.cob_edit.specs.declared.cell.TextCell.TheVariants.{Same}
use Rattle.cob_move_steps.specs.LongNumerals.{numeral_cell}
use Rattle.cob_move_steps.proofs.long_numerals_writing.numeral_row.Given as goal

abbrev pub invariant-loop-at : goal.invariant-loop-at
invariant-loop-at l = record {
  long : length l.row ≡ 48;
  each : (i : ℕ) → i < l.at → get_or l.row i (Same 0) ≡ numeral_cell l.digits i;
}
