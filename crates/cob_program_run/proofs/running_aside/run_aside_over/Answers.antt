use Rattle.cob_program_run.proofs.running_aside.run_aside_over.Goals as goal

pub returns : goal.returns
returns g c =
    let now = c.run_over_incoming.new.run in record { ran = (now.sink, now.aside, now.notes, c.run_over_incoming.ensures.ran) }
