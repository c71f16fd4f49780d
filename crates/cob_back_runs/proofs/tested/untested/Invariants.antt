use Rattle.std.proofs.Common.{List, length, map}
use Rattle.std.specs.List.{AllByRecursion}
use Rattle.cob_back_moves.specs.Tested.{layout_records}
use Rattle.cob_move_data.specs.Moves.{Move}
use Rattle.cob_move_deeds.specs.Prepared.{flow_support}
use Rattle.cob_back_runs.specs.Tested.{AreBetween, moves_told}
use Rattle.cob_back_runs.proofs.TestedLemmas.{LeftOf, untested_from}
use Rattle.cob_back_runs.proofs.tested.untested.Given as goal

abbrev pub invariant-loop-flow : goal.invariant-loop-flow
invariant-loop-flow l = record {
  left : LeftOf (List Move) (flow_support l.deeds) (untested_from (layout_records l.layouts) (flow_support l.deeds)) l.rest (map moves_told l.stretches.items)
      (untested_from (layout_records l.layouts) (flow_support l.deeds) (length l.deeds.flows.items) l.deeds.flows.items);
  records : AllByRecursion (AreBetween (layout_records l.layouts)) l.stretches.items;
}

abbrev pub decreases-loop-flow : goal.decreases-loop-flow
decreases-loop-flow l = length l.rest
