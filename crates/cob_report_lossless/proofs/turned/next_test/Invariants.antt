use Rattle.std.proofs.Common.{◌≡◌, ◌≤◌, length}
use Rattle.cob_report_lossless.specs.Turned.{first_test}
use Rattle.cob_report_lossless.proofs.turned.next_test.Given as goal

abbrev pub invariant-loop-flow : goal.invariant-loop-flow
invariant-loop-flow l = record {
  same : first_test l.flows ≡ first_test l.rest;
  fewer : length l.rest ≤ length l.flows;
}

abbrev pub decreases-loop-flow : goal.decreases-loop-flow
decreases-loop-flow l = length l.rest
