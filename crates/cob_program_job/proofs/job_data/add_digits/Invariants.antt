use Rattle.std.proofs.Common.{◌≡◌, ◌++◌, length}
use Rattle.cob_program_job.specs.JobData.{line_digits}
use Rattle.cob_program_job.proofs.job_data.add_digits.Given as goal

abbrev pub invariant-loop-at : goal.invariant-loop-at
invariant-loop-at l = l.digits.items ++ line_digits l.rest ≡ l.initial.digits.items ++ line_digits l.line

abbrev pub decreases-loop-at : goal.decreases-loop-at
decreases-loop-at l = length l.rest
