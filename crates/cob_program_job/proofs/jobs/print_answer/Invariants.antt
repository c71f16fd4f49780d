use Rattle.cob_program_job.proofs.jobs.print_answer.Given as goal

abbrev pub ghosts-print_output : goal.ghosts-print_output
ghosts-print_output g a = record { before = g.W.Sink.taken a.sink }
