use Rattle.std.proofs.Common.{List, ℕ, refl, subst}
use Rattle.cob_convert.specs.Run.{Ran}
use Rattle.cob_convert.proofs.Headline.{not_unread}
use Rattle.cob_program_job.proofs.jobs.run_over_data.Goals as goal

pub returns-clause-ran : goal.returns-clause-ran
returns-clause-ran g c = (
  c.run.new.source.rest.now,
  subst (λ (bytes : List ℕ). Ran c.args.converter.now c.run.result bytes c.run.new.source.rest.now (g.W.Sink.taken c.args.sink.now) (g.W.Sink.taken c.run.new.sink)) c.new.ensures c.run.ensures.ran,
)

pub returns-clause-read : goal.returns-clause-read
returns-clause-read g c = not_unread c.args.converter.now.out_form c.run.result 0 0 c.run.ensures.reads refl
