use Rattle.cob_convert_stream.proofs.Taken.{counts_taken}
use Rattle.cob_records.specs.Forms.{written_by}
use Rattle.cob_convert_stream.proofs.writing.write_record.Goals as goal

pub returns-clause-puts : goal.returns-clause-puts
returns-clause-puts g c =
    counts_taken (written_by c.args.outlet.now c.args.body.now) c.written_by-whole.result c.args.written.now _ c.taken_by.result c.add-answer.result _ _
    c.written_by-whole.ensures c.taken_by.ensures c.saturating_add.ensures c.add-answer.ensures.written
