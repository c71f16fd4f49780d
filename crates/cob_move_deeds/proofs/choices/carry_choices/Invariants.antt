use Rattle.std.proofs.Common.{◌≡◌, length}
use Rattle.cob_move_deeds.specs.Carrying.{AreCarriedTo, records_of_sides}
use Rattle.cob_move_deeds.specs.Prepared.{flow_support}
use Rattle.cob_move_deeds.proofs.choices.carry_choices.Given as goal

abbrev pub invariant-loop-flow : goal.invariant-loop-flow
invariant-loop-flow l = record {
  so : AreCarriedTo (records_of_sides l.sides) (flow_support l.deeds) l.deeds.flows.items l.rest l.sides.input.now l.fn.output l.output l.fn.scratch l.scratch;
  output : length l.output ≡ length l.fn.output;
}

abbrev pub decreases-loop-flow : goal.decreases-loop-flow
decreases-loop-flow l = length l.rest
