use Rattle.std.proofs.Common.{Bool, length}
use Rattle.cob_move_deeds.specs.Prepared.{flow_support}
use Rattle.cob_back_runs.proofs.TestedLemmas.{LeftOf, marks_from}
use Rattle.cob_back_runs.proofs.tested.move_marks.Given as goal

abbrev pub invariant-loop-flow : goal.invariant-loop-flow
invariant-loop-flow l =
    LeftOf Bool (flow_support l.deeds) (marks_from l.conversion.records (flow_support l.deeds)) l.rest l.marks.items
    (marks_from l.conversion.records (flow_support l.deeds) (length l.deeds.flows.items) l.deeds.flows.items)

abbrev pub decreases-loop-flow : goal.decreases-loop-flow
decreases-loop-flow l = length l.rest
