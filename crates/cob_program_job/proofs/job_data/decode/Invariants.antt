use Rattle.std.proofs.Common.{length}
use Rattle.cob_program_job.proofs.Gathering.{Gathered}
use Rattle.cob_program_job.proofs.job_data.decode.Given as goal

abbrev pub invariant-loop-last : goal.invariant-loop-last
invariant-loop-last l = Gathered l.text l.lines.rest.now l.digits.items l.first_line l.lines.number l.last

abbrev pub decreases-loop-last : goal.decreases-loop-last
decreases-loop-last l = length l.lines.rest.now
