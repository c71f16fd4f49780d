use Rattle.cob_convert_stream.proofs.Taken.{counts_taken}
use Rattle.cob_records.specs.Forms.{pending_in}
use Rattle.cob_convert_stream.proofs.writing.write_pending.Goals as goal

pub returns-clause-puts : goal.returns-clause-puts
returns-clause-puts g c =
    counts_taken (pending_in c.args.outlet.now) c.pending-whole.result c.args.written.now _ c.taken_by.result c.finish-answer.result _ _
    c.pending-whole.ensures c.taken_by.ensures c.saturating_add.ensures c.finish-answer.ensures.written
