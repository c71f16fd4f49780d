use Rattle.std.proofs.Common.{refl, inr, Err}
use Rattle.cob_program_job.specs.declared.fault.JobFault.TheVariants.{Malformed}
use Rattle.cob_program_job.proofs.Answering.{job_refused}
use Rattle.cob_program_job.proofs.jobs.convert.Goals as goal

pub returns-in-Err-clause-outcome : goal.returns-in-Err-clause-outcome
returns-in-Err-clause-outcome g c =
    job_refused c.args.text.now (Err (Malformed c.in-Err.line)) (g.W.Sink.taken c.args.sink.now) c.in-Err.line (inr c.in-Err.ensures.refused) refl
