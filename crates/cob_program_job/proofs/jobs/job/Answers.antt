use Rattle.cob_program_job.proofs.jobs.job.Goals as goal

pub returns : goal.returns
returns g c = (g.W.Sink.taken c.job_into-code.result.1.now, g.W.Sink.failures c.job_into-code.result.1.now, c.job_into-code.ensures)
