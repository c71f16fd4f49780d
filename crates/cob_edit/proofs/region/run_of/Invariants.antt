use Rattle.std.proofs.Common.{◌≡◌, ◌+◌, ◌||◌, drop, not}
use Rattle.std.specs.List.{prefix_len}
use Rattle.cob_edit.specs.Places.{is_run, is_point_place}
use Rattle.cob_edit.proofs.region.run_of.Given as goal

abbrev pub invariant-loop-at : goal.invariant-loop-at
invariant-loop-at l = prefix_len (λ p. not (is_run p || is_point_place p)) l.places ≡ l.at + prefix_len (λ p. not (is_run p || is_point_place p)) (drop l.at l.places)
