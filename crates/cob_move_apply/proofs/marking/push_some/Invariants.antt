use Rattle.std.proofs.Common.{[], ◌≤◌}
use Rattle.cob_codec.specs.declared.reading.Reading.{Reading}
use Rattle.cob_move_data.specs.Moves.{moves_by}
use Rattle.cob_move_apply.specs.Marked.{PlanGrows, items_between}
use Rattle.cob_move_apply.specs.Planned.{AreMore, records_between}
use Rattle.cob_move_apply.specs.Steps.{StandFor, support_of}
use Rattle.cob_move_apply.proofs.marking.push_some.Given as goal

abbrev pub invariant-loop-number : goal.invariant-loop-number
invariant-loop-number l = record {
  past : l.from ≤ l.number;
  within : l.number ≤ l.to;
  grows : PlanGrows l.fn.plan l.plan;
  stand : (x : Reading) → StandFor x (records_between l.both) l.given l.plan.steps.items (support_of l.plan) (moves_by x (records_between l.both) (items_between l.from l.number l.given));
  more : (x : Reading) → AreMore (records_between l.both) (moves_by x (records_between l.both) (items_between l.from l.number l.given)) [] l.plan.steps.items;
}
