use Rattle.std.proofs.Common.{◌≡◌, ◌+◌, drop}
use Rattle.std.specs.List.{prefix_len}
use Rattle.cob_edit.specs.Places.{is_run_or_insertion}
use Rattle.cob_edit.proofs.region.run_length.Given as goal

abbrev pub invariant-loop-at : goal.invariant-loop-at
invariant-loop-at l = prefix_len is_run_or_insertion l.places ≡ l.at + prefix_len is_run_or_insertion (drop l.at l.places)
