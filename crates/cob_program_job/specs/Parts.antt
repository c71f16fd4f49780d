-- The parts of a job as a reader hands them out.
use Rattle.cob_program_job.specs.declared.job_text.JobText.{JobText}
use Rattle.cob_program_job.specs.Marks.{Parts}

-- the parts that a reader found
abbrev pub parts_of : JobText → Parts
parts_of job = record {
  in_form = job.in_form;
  out_form = job.out_form;
  in_book = job.in_book.now;
  out_book = job.out_book.now;
  moves = job.moves.now;
  digits = job.digits.now;
}
