use Rattle.std.proofs.Common.{◌≡◌, map, replicate}
use Rattle.cob_report_lossless.specs.Turned.{plain_condition, unknown_condition}
use Rattle.cob_report_lossless.proofs.turned.unknown_conditions.Given as goal

abbrev pub invariant-loop-i : goal.invariant-loop-i
invariant-loop-i l = map plain_condition l.conditions.items ≡ replicate l.i unknown_condition
