use Rattle.std.proofs.Common.{take, []}
use Rattle.cob_codec.specs.declared.reading.Reading.{Reading}
use Rattle.cob_move_data.specs.Moves.{moves_by}
use Rattle.cob_move_apply.specs.Planned.{AreMore}
use Rattle.cob_move_apply.specs.Steps.{StandFor, support_of}
use Rattle.cob_move_apply.proofs.planning.plan_of.Given as goal

abbrev pub invariant-loop-number : goal.invariant-loop-number
invariant-loop-number l = record {
  stand : (x : Reading) → StandFor x (record { input = l.input; output = l.output }) l.given l.plan.steps.items (support_of l.plan) (moves_by x (record { input = l.input; output = l.output }) (take l.number l.given));
  more : (x : Reading) → AreMore (record { input = l.input; output = l.output }) (moves_by x (record { input = l.input; output = l.output }) (take l.number l.given)) [] l.plan.steps.items;
}
