use Rattle.std.proofs.Common.{◌≡◌, map, replicate}
use Rattle.cob_report_lossless.specs.Turned.{told_loop, unknown_loop}
use Rattle.cob_report_lossless.proofs.turned.unknown_loops.Given as goal

abbrev pub invariant-loop-i : goal.invariant-loop-i
invariant-loop-i l = map told_loop l.loops.items ≡ replicate l.i unknown_loop
