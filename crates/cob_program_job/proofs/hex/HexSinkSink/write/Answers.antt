use Rattle.cob_program_job.proofs.Digits.{told_write}
use Rattle.cob_program_job.specs.Printed.{with_due}
use Rattle.cob_program_job.proofs.hex.HexSinkSink.write.Goals as goal

pub returns-clause-bytes : goal.returns-clause-bytes
returns-clause-bytes g c =
    told_write c.put_text.result g.K.Opening.before (with_due (g.W.Sink.taken c.args.self.now.inner) c.args.self.now.due)
    (with_due (g.W.Sink.taken c.put_due.new.self.inner) c.put_due.new.self.due) (with_due (g.W.Sink.taken c.put_text.new.self.inner) c.put_text.new.self.due)
    c.args.piece.now c.put_due.new.self.text c.put_due.ensures.kept c.put_text.ensures.text
