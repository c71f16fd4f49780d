use Rattle.std.proofs.Common.{ap}
use Rattle.cob_move_data.specs.declared.operands.Side.{Side}
use Rattle.cob_move_data.specs.Moves.{Records, operand_in, record_of}
use Rattle.cob_move_apply.specs.Applied.{storage_of}
use Rattle.cob_move_apply.specs.Located.{stop_at}
use Rattle.cob_move_apply.specs.declared.stop.StopCause.TheVariants.{NoValue}
use Rattle.cob_move_deeds.specs.Carrying.{records_of_sides}
use Rattle.cob_move_deeds.proofs.GivingLemmas.{lacks_at, reads_on_so}
use Rattle.cob_move_deeds.proofs.TestLemmas.{not_both}
use Rattle.cob_move_deeds.proofs.giving.lack_entry.Goals as goal

pub returns-in-Ok-clause-lacks : goal.returns-in-Ok-clause-lacks
returns-in-Ok-clause-lacks c = λ reading.
    lacks_at (records_of_sides c.args.sides.now) c.args.entry.now reading c.args.sides.now.input.now c.args.output.now c.in-Ok.place (stop_at c.side.result c.in-Ok.place.offset NoValue) c.in-Ok.ensures.located
    (ap (λ (d : Side). stop_at d c.in-Ok.place.offset NoValue) c.side.ensures)

pub returns-in-Ok-clause-halted : goal.returns-in-Ok-clause-halted
returns-in-Ok-clause-halted c = reads_on_so c.args.sides.now.output_layout.now c.in-Ok.place c.args.scratch.now c.place.new.scratch c.in-Ok.ensures.reads

pub returns-in-Err-clause-lacks : goal.returns-in-Err-clause-lacks
returns-in-Err-clause-lacks c = λ reading.
    let r : Records = records_of_sides c.args.sides.now in
    let e = c.args.entry.now in
    let (p, there) = c.requires.stands in
    absurd (not_both c.one_outcome_of_counts.ensures.needed e.side (record_of r e.side) (operand_in (record_of r e.side) e.entry) (storage_of e.side c.args.sides.now.input.now c.args.output.now) p c.in-Err.stop there c.in-Err.ensures.located)
