use Rattle.cob_program_run.proofs.incoming.run_over_source.Goals as goal

pub returns-in-Some-clause-ran : goal.returns-in-Some-clause-ran
returns-in-Some-clause-ran g c = rw c.into_inner.ensures (rw c.new-told.ensures.inner at c.run-answer-in-Some.ensures.ran)
