use Rattle.std.proofs.Common.{◌≡◌, length}
use Rattle.std.specs.List.{AllByRecursion}
use Rattle.cob_move_deeds.specs.Carrying.{FlowSpends, HasKept, LeavesFlows, records_of_sides}
use Rattle.cob_move_deeds.specs.Flows.{IsFlow}
use Rattle.cob_move_deeds.specs.Known.{AreKnown}
use Rattle.cob_move_deeds.specs.Prepared.{flow_support}
use Rattle.cob_move_deeds.proofs.carrying.carry_loops.Given as goal

abbrev pub invariant-loop-flow : goal.invariant-loop-flow
invariant-loop-flow l = record {
  left : LeavesFlows (records_of_sides l.sides) (flow_support l.deeds) l.flows l.rest l.sides.input.now l.fn.output l.output;
  each : AllByRecursion (IsFlow (flow_support l.deeds)) l.rest;
  output : length l.output ≡ length l.fn.output;
  reads : FlowSpends (records_of_sides l.sides) (flow_support l.deeds) l.flows l.rest l.sides.input.now l.fn.output l.output l.fn.scratch l.scratch;
  kept : HasKept (records_of_sides l.sides) l.sides.input.now l.output l.scratch;
  known : AreKnown (records_of_sides l.sides) (flow_support l.deeds) l.sides.input.now l.output l.known;
}

abbrev pub decreases-loop-flow : goal.decreases-loop-flow
decreases-loop-flow l = length l.rest
