use Rattle.std.proofs.Common.{map, take}
use Rattle.cob_codec.specs.declared.reading.Reading.{Reading}
use Rattle.cob_move_data.specs.Moves.{operand_in, sender_by}
use Rattle.cob_move_apply.specs.Planned.{AreMore, records_between}
use Rattle.cob_move_apply.specs.Steps.{Gains, singles}
use Rattle.cob_move_apply.proofs.planning.push_singles.Given as goal

abbrev pub invariant-loop-first : goal.invariant-loop-first
invariant-loop-first l = record {
  gains : (x : Reading) → Gains x (records_between l.both) l.given (singles (sender_by x (records_between l.both) l.one.sender) (take l.first (map (operand_in l.both.output.now) l.receivers))) l.fn.plan l.plan;
  more : (x : Reading) → AreMore (records_between l.both) (singles (sender_by x (records_between l.both) l.one.sender) (take l.first (map (operand_in l.both.output.now) l.receivers))) l.fn.plan.steps.items l.plan.steps.items;
}
