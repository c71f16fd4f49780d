use Rattle.std.proofs.Common.{◌≡◌, ◌++◌, length, replicate, true}
use Rattle.std.specs.List.{AllByRecursion, flat_map}
use Rattle.cob_move_data.specs.Moves.{Records}
use Rattle.cob_move_deeds.specs.Flows.{IsFlow}
use Rattle.cob_move_deeds.specs.Prepared.{AreDeedsPrepared, flow_support}
use Rattle.cob_back_runs.specs.Tested.{flow_moves}
use Rattle.cob_back_runs.proofs.tested.push_for_flows.Given as goal

abbrev pub invariant-loop-flow : goal.invariant-loop-flow
invariant-loop-flow l = record {
  each : AllByRecursion (IsFlow (flow_support l.deeds)) l.rest;
  marks : (r : Records) → AreDeedsPrepared r l.deeds → l.marks.items ++ replicate (length (flat_map (flow_moves r (flow_support l.deeds)) l.rest)) true
      ≡ l.initial.marks.items ++ replicate (length (flat_map (flow_moves r (flow_support l.deeds)) l.flows)) true;
}

abbrev pub decreases-loop-flow : goal.decreases-loop-flow
decreases-loop-flow l = length l.rest
