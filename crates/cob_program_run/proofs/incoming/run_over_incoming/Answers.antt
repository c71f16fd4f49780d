use Rattle.cob_program_run.proofs.incoming.run_over_incoming.Goals as goal

pub returns-in-All : goal.returns-in-All
returns-in-All g c = record { ran = rw c.in-All.is (_, c.run_over_source.ensures.ran) }
