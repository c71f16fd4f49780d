use Rattle.cob_program_job.proofs.FirstPlaces.{line_before, line_without, rest_before, rest_without}
use Rattle.cob_program_job.proofs.job_text.split_line.Goals as goal

pub returns-in-Some-clause-line : goal.returns-in-Some-clause-line
returns-in-Some-clause-line c =
    line_before c.args.text.now c.without_return.result.now c.in-Some.at (rw c.in-Some.is at c.memchr.ensures) c.without_return.ensures

pub returns-in-Some-clause-rest : goal.returns-in-Some-clause-rest
returns-in-Some-clause-rest c = rest_before c.args.text.now c.in-Some.at (rw c.in-Some.is at c.memchr.ensures)

pub returns-in-None-clause-line : goal.returns-in-None-clause-line
returns-in-None-clause-line c = line_without c.args.text.now c.requires (rw c.in-None.is at c.memchr.ensures)

pub returns-in-None-clause-rest : goal.returns-in-None-clause-rest
returns-in-None-clause-rest c = rest_without c.args.text.now (rw c.in-None.is at c.memchr.ensures)
