use Rattle.std.proofs.Common.{length}
use Rattle.std.specs.Prelude.{IfSome}
use Rattle.std.specs.List.{AllByRecursion}
use Rattle.cob_move_deeds.specs.Flows.{IsFlow}
use Rattle.cob_move_deeds.specs.Prepared.{flow_support}
use Rattle.cob_move_deeds.specs.Steady.{IsStretch}
use Rattle.cob_move_deeds.proofs.ready.ReadyDeeds.marks_of.Given as goal

abbrev pub invariant-loop-flow : goal.invariant-loop-flow
invariant-loop-flow l = record {
  found : IfSome l.found (IsStretch (flow_support l.self));
  each : AllByRecursion (IsFlow (flow_support l.self)) l.rest;
}

abbrev pub decreases-loop-flow : goal.decreases-loop-flow
decreases-loop-flow l = length l.rest
