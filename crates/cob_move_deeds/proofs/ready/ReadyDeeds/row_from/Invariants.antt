use Rattle.std.proofs.Common.{◌<◌, ◌≤◌, length}
use Rattle.std.specs.List.{AllByRecursion}
use Rattle.cob_move_deeds.specs.Flows.{IsFlow}
use Rattle.cob_move_deeds.specs.Prepared.{flow_support}
use Rattle.cob_move_deeds.specs.Rows.{IsRow}
use Rattle.cob_move_deeds.proofs.ready.ReadyDeeds.row_from.Given as goal

abbrev pub invariant-loop-flow : goal.invariant-loop-flow
invariant-loop-flow l = record {
  row : IsRow l.bound l.last l.first l.flows l.to l.left;
  within : l.to < length l.self.moves.marks.items;
  each : AllByRecursion (IsFlow (flow_support l.self)) l.left;
  fewer : length l.left ≤ length l.flows;
}

abbrev pub decreases-loop-flow : goal.decreases-loop-flow
decreases-loop-flow l = length l.left
