use Rattle.cob_program_job.proofs.Answering.{read_prints, unread_prints}
use Rattle.cob_program_job.proofs.jobs.print_answer.Goals as goal

pub returns-in-Ok : goal.returns-in-Ok
returns-in-Ok g c =
    read_prints c.in-Ok.text.items c.print_output.result.answer c.print_output.result.due c.print_output.result.begun (g.R.Source.coming c.args.source.now)
    (g.R.Source.coming c.read_job.new.source) (g.W.Sink.taken c.args.sink) (g.W.Sink.taken c.print_output.result.sink) (g.R.Source.failures c.args.source.now)
    (g.R.Source.failures c.read_job.new.source) (g.W.Sink.failures c.args.sink) (g.W.Sink.failures c.print_output.result.sink) c.in-Ok.ensures.bytes c.in-Ok.ensures.whole
    c.in-Ok.ensures.cause (rw c.deref.ensures.value at c.print_output.ensures.printed) c.print_output.ensures.owed c.print_output.ensures.kind c.print_output.ensures.cause

pub returns-in-Err : goal.returns-in-Err
returns-in-Err g c =
    unread_prints c.in-Err.fault (g.R.Source.coming c.args.source.now) (g.R.Source.coming c.read_job.new.source) (g.W.Sink.taken c.args.sink)
    (g.R.Source.failures c.args.source.now) (g.R.Source.failures c.read_job.new.source) (g.W.Sink.failures c.args.sink) c.in-Err.ensures.kind c.in-Err.ensures.cause
