use Rattle.std.proofs.Common.{◌≡◌, length}
use Rattle.std.specs.List.{AllByRecursion}
use Rattle.cob_move_data.specs.Moves.{Records}
use Rattle.cob_move_deeds.specs.Flows.{IsFlow}
use Rattle.cob_move_deeds.specs.Prepared.{AreDeedsPrepared, flow_support}
use Rattle.cob_move_deeds.specs.Steady.{AreSteady}
use Rattle.cob_move_deeds.proofs.ready.ReadyDeeds.noted.Given as goal

abbrev pub invariant-loop-flow : goal.invariant-loop-flow
invariant-loop-flow l = record {
  steady : (r : Records) → r.output ≡ l.output → AreDeedsPrepared r l.self → AreSteady r l.self.moves l.self.bounds.items l.noted.items;
  each : AllByRecursion (IsFlow (flow_support l.self)) l.rest;
}

abbrev pub decreases-loop-flow : goal.decreases-loop-flow
decreases-loop-flow l = length l.rest
