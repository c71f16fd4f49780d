use Rattle.cob_program_job.proofs.Answering.{is_done}
use Rattle.cob_program_job.proofs.jobs.job_into.Goals as goal

pub returns : goal.returns
returns g c =
    is_done c.print_answer-printing.result.answer c.print_answer-printing.result.due c.print_answer-printing.result.begun (g.R.Source.coming c.args.source.now)
    (g.R.Source.coming c.print_answer-printing.new.source) (g.W.Sink.taken c.args.sink) (g.W.Sink.taken c.print_answer-printing.result.sink) (g.W.Sink.taken c.end_job-status.new.sink)
    (g.R.Source.failures c.args.source.now) (g.R.Source.failures c.print_answer-printing.new.source) (g.W.Sink.failures c.args.sink) (g.W.Sink.failures c.print_answer-printing.result.sink)
    (g.W.Sink.failures c.end_job-status.new.sink) c.code.result c.end_job-status.result c.print_answer-printing.ensures c.end_job-status.ensures c.code.ensures
