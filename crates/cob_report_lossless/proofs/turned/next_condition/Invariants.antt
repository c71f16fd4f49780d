use Rattle.std.proofs.Common.{◌≡◌, ◌≤◌, length}
use Rattle.cob_report_lossless.specs.Turned.{first_found_condition}
use Rattle.cob_report_lossless.proofs.turned.next_condition.Given as goal

abbrev pub invariant-loop-flow : goal.invariant-loop-flow
invariant-loop-flow l = record {
  same : first_found_condition l.flows ≡ first_found_condition l.rest;
  fewer : length l.rest ≤ length l.flows;
}

abbrev pub decreases-loop-flow : goal.decreases-loop-flow
decreases-loop-flow l = length l.rest
