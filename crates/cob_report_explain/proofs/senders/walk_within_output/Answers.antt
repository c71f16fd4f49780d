use Rattle.cob_move_data.specs.declared.operands.Side.TheVariants.{Out}
use Rattle.cob_move_data.specs.Moves.{Entry, operand_in}
use Rattle.cob_report_explain.specs.Seen.{move_of, records_of_layouts}
use Rattle.cob_report_explain.proofs.EachLemmas.{sender_lacks}
use Rattle.cob_report_explain.proofs.senders.walk_within_output.Goals as goal

pub returns-in-Err-clause-seen : goal.returns-in-Err-clause-seen
returns-in-Err-clause-seen g c =
    sender_lacks (Entry Out c.args.layouts.now.reading (operand_in c.args.layouts.now.output.now c.args.entry.now)) (records_of_layouts c.args.layouts.now) (move_of c.args.parts.now) c.args.input.now c.args.output.now
    (g.W.Watcher.seen c.args.watcher.now) c.in-Err.stop c.sender_stop.result c.in-Err.ensures.located c.sender_stop.ensures
