use Rattle.std.proofs.Common.{◌≡◌, ◌+◌, drop, not}
use Rattle.std.specs.List.{prefix_len}
use Rattle.cob_picture.specs.Counts.{is_decimal_point}
use Rattle.cob_picture.proofs.counts.runs_before_point.Given as goal

abbrev pub invariant-loop-place : goal.invariant-loop-place
invariant-loop-place l = prefix_len (λ r. not (is_decimal_point r.symbol)) l.runs ≡ l.place + prefix_len (λ r. not (is_decimal_point r.symbol)) (drop l.place l.runs)
