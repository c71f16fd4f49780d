use Rattle.std.proofs.Common.{map, take}
use Rattle.cob_codec.specs.declared.reading.Reading.{Reading}
use Rattle.cob_move_data.specs.Moves.{numbered_move_by}
use Rattle.cob_move_apply.specs.Planned.{AreMore, records_between}
use Rattle.cob_move_apply.specs.Steps.{Gains}
use Rattle.cob_move_apply.proofs.planning.push_pairs.Given as goal

abbrev pub invariant-loop-first : goal.invariant-loop-first
invariant-loop-first l = record {
  gains : (x : Reading) → Gains x (records_between l.both) l.given (map (numbered_move_by x (records_between l.both) l.group) (take l.first l.group.pairs.items)) l.fn.plan l.plan;
  more : (x : Reading) → AreMore (records_between l.both) (map (numbered_move_by x (records_between l.both) l.group) (take l.first l.group.pairs.items)) l.fn.plan.steps.items l.plan.steps.items;
}
