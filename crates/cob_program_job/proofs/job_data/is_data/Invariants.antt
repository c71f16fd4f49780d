use Rattle.std.proofs.Common.{◌≡◌, take}
use Rattle.cob_program_job.specs.JobData.{is_data_line}
use Rattle.cob_program_job.proofs.job_data.is_data.Given as goal

abbrev pub invariant-loop-character : goal.invariant-loop-character
invariant-loop-character l = l.all ≡ is_data_line (take l.character-index l.line)
