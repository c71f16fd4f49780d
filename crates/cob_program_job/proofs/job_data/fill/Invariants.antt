use Rattle.std.proofs.Common.{◌≡◌, ◌*◌, length, take}
use Rattle.cob_program_job.specs.JobData.{AreDigitsOf}
use Rattle.cob_program_job.proofs.job_data.fill.Given as goal

abbrev pub invariant-loop-at : goal.invariant-loop-at
invariant-loop-at l = record {
  value : AreDigitsOf (take (2 * l.at) l.digits) (take l.at l.bytes);
  size : length l.bytes ≡ length l.initial.bytes;
}
