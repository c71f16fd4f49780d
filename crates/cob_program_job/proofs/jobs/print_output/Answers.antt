use Rattle.cob_program_job.specs.Printed.{with_due}
use Rattle.cob_program_job.proofs.Answering.{prints}
use Rattle.cob_program_job.proofs.jobs.print_output.Goals as goal

pub returns-clause-printed : goal.returns-clause-printed
returns-clause-printed g c =
    rw (c.into_parts-sink.ensures.inner, c.into_parts-sink.ensures.due, c.into_parts-sink.ensures.begun, c.requires)
    (prints c.args.text.now c.convert-answer.result c.convert-answer.new.sink.begun g.K.Opening.before
    (with_due (g.W.Sink.taken c.convert-answer.new.sink.inner) c.convert-answer.new.sink.due) c.convert-answer.new.sink.text c.convert-answer.new.sink.said
    (rw (c.new-digits.ensures.inner, c.new-digits.ensures.due, c.requires) at c.convert-answer.ensures.outcome))
